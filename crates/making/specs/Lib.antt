-- What a make does, over memory of any content: the segment that it takes, the block that it hands out, and what it comes to before a search.
pub mod Taking
pub mod HandingOut
pub mod Beginning
