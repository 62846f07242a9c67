-- Read Page (the page of a journal), and then what it is made of: Settings, Inputs and Ends; Journal, Samples and Leaps (what a journal says);
-- Sources and Selecting (which sources agree); Fields (the fields of the page); PageText (its line);
-- Numbered (the lines of a journal). Feeds, Fit, Surviving, Silence and KeptFold
-- are scaffolding.
pub mod Ends
pub mod Feeds
pub mod Fields
pub mod Fit
pub mod Inputs
pub mod Journal
pub mod KeptFold
pub mod Leaps
pub mod Numbered
pub mod Page
pub mod PageText
pub mod Samples
pub mod Selecting
pub mod Settings
pub mod Silence
pub mod Sources
pub mod Surviving
