pub mod Laws
pub mod HeadLaws
pub mod RunLaws
pub mod CallLaws
