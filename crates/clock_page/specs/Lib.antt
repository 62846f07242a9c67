-- Read Page (what a page says, and its ten words), then Times (what it says of a moment). KeptPage is scaffolding.
pub mod KeptPage
pub mod Page
pub mod Times
