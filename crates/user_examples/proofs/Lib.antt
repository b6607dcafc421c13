mod AddsLemmas
mod InSlicesLemmas
mod RequestsLemmas
mod MyValueLemmas
mod WhoseLemmas
mod BehindLemmas
mod TwoWritersLemmas
mod KindsLemmas
