pub mod ConditionLemmas
mod EntityLemmas
mod PartLemmas
pub mod RequestLaws
pub mod AddressLaws
pub mod VersionLaws
pub mod PlainLaws
mod NameLaws
pub mod FollowLaws
mod QuoteLemmas
pub mod ReplyLemmas
mod TextLemmas
mod BatchLemmas
pub mod AuthLemmas
mod AnswerLemmas
