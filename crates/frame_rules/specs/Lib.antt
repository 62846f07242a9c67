-- Read Codes (what a code plan is), Sendings (how one is sent), Fields (bits, weights, counts of a segment's places), Rules and
-- MarkRules (what breaks a rule) and First (which rule is named). Numbers, Digits and Bits are small terms that they use. Words is
-- scaffolding.
pub mod Codes
pub mod Sendings
pub mod Fields
pub mod Rules
pub mod MarkRules
pub mod First
pub mod Numbers
pub mod Digits
pub mod Bits
pub mod Words
