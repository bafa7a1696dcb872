mod Numbered
mod Came
mod Flying
mod Histories
mod Showing
