mod Labelled
mod Taken
mod Binding
