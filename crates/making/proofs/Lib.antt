-- Laws of taking a segment, of handing out a block, of what a make comes to before a search, and of make.
pub mod Taking
pub mod Readying
pub mod Placing
pub mod HandingOut
pub mod Making
pub mod Beginning
