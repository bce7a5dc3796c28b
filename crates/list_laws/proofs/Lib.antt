mod Common
pub mod Apart
pub mod Choice
pub mod Digits
pub mod FirstPlace
pub mod Items
pub mod Members
pub mod Places
pub mod Ranges
pub mod Reversed
pub mod TwoLists
