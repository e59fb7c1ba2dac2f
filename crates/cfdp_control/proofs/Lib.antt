mod AskingRows
mod Giving
mod NamesRead
mod Visiting
