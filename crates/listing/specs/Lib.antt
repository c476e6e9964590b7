pub mod Pairs
pub mod Order
pub mod Listing
pub mod Replies
