mod Listing
mod LastLine
