-- The values of the code as those of the definitions.
use Rattle.std.specs.Prelude.{ℕ, ◌-◌, Bool, false, ◌&&◌, nat_lt, List, [], ◌∷◌, length, drop, codes, bytes_eq, Option, Some, None, option_map, if◌then◌else◌}
use Rattle.std.specs.Str.{str_eq_ignore_ascii_case}
use Rattle.ice_candidates.specs.declared.candidate.Transport.{Transport}
use Rattle.ice_candidates.specs.declared.candidate.Transport.TheVariants as T
use Rattle.ice_candidates.specs.declared.candidate.Address.{Address}
use Rattle.ice_candidates.specs.declared.candidate.Address.TheVariants as A
use Rattle.ice_candidates.specs.declared.candidate.CandidateKind.{CandidateKind}
use Rattle.ice_candidates.specs.declared.candidate.CandidateKind.TheVariants as K
use Rattle.ice_candidates.specs.declared.candidate.Candidate.{Candidate}
use Rattle.ice_candidates.specs.declared.extensions.Extensions.{Extensions}
use Rattle.ice_candidates.specs.Candidates.{Protocol, udp, tcp, another_protocol, Place, ip, name, Kind, host, server_reflexive, peer_reflexive, relayed, another_kind, Fields}
use Rattle.ice_candidates.specs.Words.{words_of}
use Rattle.ice_candidates.specs.Reading.{pairs_of}

abbrev pub protocol : Transport → Protocol
protocol T.Udp = udp
protocol T.Tcp = tcp
protocol (T.Other text) = another_protocol text.now

abbrev pub place : Address → Place
place (A.Ip a) = ip a
place (A.Name text) = name text.now

abbrev pub kind : CandidateKind → Kind
kind K.Host = host
kind K.ServerReflexive = server_reflexive
kind K.PeerReflexive = peer_reflexive
kind K.Relayed = relayed
kind (K.Other text) = another_kind text.now

-- the names of extensions with their values
abbrev pub pairs : Extensions → List (List ℕ × List ℕ)
pairs e = pairs_of (words_of e.rest)

-- the value of the first extension of this name
abbrev pub value_in : (name : List ℕ) → List (List ℕ × List ℕ) → Option (List ℕ)
value_in wanted [] = None
value_in wanted (extension ∷ others) =
    if bytes_eq extension.0 wanted then Some extension.1 else value_in wanted others

-- a `.local` name of multicast DNS (RFC 6762, from memory), in any case
abbrev pub is_mdns : Place → Bool
is_mdns (ip a) = false
is_mdns (name text) =
    nat_lt 6 (length text)
    && str_eq_ignore_ascii_case (drop (length text - 6) text) (codes ".local")

abbrev pub fields : Candidate → Fields
fields c = record {
  foundation = c.foundation.now;
  component = c.component;
  protocol = protocol c.transport;
  priority = c.priority;
  address = place c.address;
  port = c.port;
  kind = kind c.kind;
  related_address = option_map place c.related_address;
  related_port = c.related_port;
  extensions = pairs c.extensions;
}
