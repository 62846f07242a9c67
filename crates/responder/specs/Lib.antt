-- What a reader has to believe, in this order: Desks (a responder as its clients see it), Turns (the turns of a responder, and the
-- events, readings and counts that each stands for, and what it does to the gate of clients), Serving (what a call of `serve` does, by
-- its turns, and why it ends). Steps is scaffolding: one turn at a time.
pub mod Desks
pub mod Turns
pub mod Serving
pub mod Steps
