pub mod ShortBoard
