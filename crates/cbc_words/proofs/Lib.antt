pub mod ActionLaws
pub mod CommandLaws
pub mod NumberLaws
pub mod RefusalLaws
pub mod RestLaws
