-- A candidate, without where its texts are in memory.
use Rattle.std.specs.Prelude.{ℕ, List, Option}
use Rattle.std.specs.declared.net.ip_addr.IpAddr.{IpAddr}

pub data Protocol : Type 0 where
  udp : Protocol
  tcp : Protocol
  another_protocol : List ℕ → Protocol

pub data Place : Type 0 where
  ip : IpAddr → Place
  name : List ℕ → Place

-- the types of RFC 8445, section 5.1.1, and others
pub data Kind : Type 0 where
  host : Kind
  server_reflexive : Kind
  peer_reflexive : Kind
  relayed : Kind
  another_kind : List ℕ → Kind

pub record Fields : Type 0 where
  pub foundation : List ℕ
  pub component : ℕ
  pub protocol : Protocol
  pub priority : ℕ
  pub address : Place
  pub port : ℕ
  pub kind : Kind
  pub related_address : Option Place
  pub related_port : Option ℕ
  pub extensions : List (List ℕ × List ℕ)
