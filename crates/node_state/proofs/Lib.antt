pub mod CountLaws
pub mod QueueLaws
pub mod WireLaws
pub mod ReturnLaws
