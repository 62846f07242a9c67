-- Laws of this crate: PassLaws (the passes of all feeds, place by place), CollectingLaws (what workers leave, one after the other),
-- InPlaceLaws (items that change in their places), FeedLaws and LinkLaws (what closing reports of each feed and of each link).
pub mod PassLaws
pub mod CollectingLaws
pub mod InPlaceLaws
pub mod FeedLaws
pub mod LinkLaws
