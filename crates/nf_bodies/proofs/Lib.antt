mod Labelled
mod Answering
