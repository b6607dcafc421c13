mod LongestLemmas
mod OctetLemmas
mod PortsLemmas
