mod Titles
mod Named
mod Reading
