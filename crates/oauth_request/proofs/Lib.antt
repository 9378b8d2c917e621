pub mod ValueLemmas
pub mod ProtocolLemmas
pub mod KeyLemmas
pub mod ConditionLemmas
pub mod CheckedLemmas
pub mod OneAnswerLemmas
pub mod SigningLemmas
pub mod BelievedLemmas
