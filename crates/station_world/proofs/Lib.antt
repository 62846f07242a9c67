-- StepLaws: what a step that is not refused keeps. RunLaws: lists of steps.
pub mod RunLaws
pub mod StepLaws
