-- NumberLaws: the lines of a journal. Downs: lists from which the last element was taken.
pub mod Downs
pub mod NumberLaws
