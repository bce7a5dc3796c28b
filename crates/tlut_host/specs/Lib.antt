pub mod Words
pub mod Calls
pub mod Copied
pub mod Kept
pub mod Opened
pub mod Owned
pub mod Paced
pub mod Settings
