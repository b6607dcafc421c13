mod ListsLemmas
mod AddressesLemmas
mod Backed
mod BackedLemmas
pub mod RightLemmas
mod BoundsLemmas
mod PaceLemmas
mod StrangersLemmas
mod RolesLemmas
pub mod PlacesLemmas
pub mod FinalLemmas
pub mod SilenceLemmas
mod CountsLemmas
mod SingleLemmas
mod MeetLists
mod MeetPairs
mod MeetSteps
mod MeetExchanges
mod MeetUnaware
mod MeetTurns
mod MeetStages
pub mod MeetTries
mod MeetRounds
mod MeetLosses
mod MeetLemmas
mod LastingLemmas
mod StartingLemmas
mod ExampleLemmas
mod FollowedLemmas
mod NamingLemmas
mod BestLemmas
mod FairLemmas
mod BusyLemmas
mod KeptLemmas
