pub mod Beginning
pub mod Covering
pub mod Judging
pub mod Heading
