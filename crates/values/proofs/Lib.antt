-- The laws of run to values.
pub mod RunLaws
pub mod FaultLaws
pub mod RankLaws
pub mod PartLaws
pub mod GivingLaws
