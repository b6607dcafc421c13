mod ListsLemmas
mod JoiningLemmas
mod Keeping
mod SoundLemmas
mod FewLemmas
mod StrangersLemmas
mod Backed
mod BackedLemmas
mod RightLemmas
pub mod WorkingLemmas
mod ServerSound
mod ServerEnds
mod ServerOwn
mod ServerStory
mod ReachLemmas
mod RelayedLemmas
mod PunctualLemmas
mod BackLemmas
mod MeetingsLemmas
mod JoinedLemmas
pub mod StayingLemmas
mod KeptLemmas
mod NumbersLemmas
mod AtOnceLemmas
mod NamingLemmas
mod KeepingLemmas
pub mod ClockLemmas
mod AskingLemmas
mod IdentifiedLemmas
mod BoundLemmas
mod AddressLemmas
mod RenewingLemmas
mod DeletingLemmas
mod RareLemmas
mod ViolatedLemmas
pub mod RoundsLemmas
pub mod AddedLemmas
mod LossLemmas
mod TidyLemmas
mod DroppedLemmas
mod RestingLemmas
mod OneRequestLemmas
mod SharingLemmas
