use Rattle.std.proofs.Common.{◌≡◌, ◌+◌, ◌≤◌, ◌<◌, true, arith}
use Rattle.turn_peers.specs.declared.ranges.PeerRange.{PeerRange}
use Rattle.turn_peers.specs.declared.defaults.TheConstants.{DENIED_BY_DEFAULT}
use Rattle.turn_peers.specs.Ranges.{denies, allows}
use Rattle.turn_peers.specs.Peers.{is_open}
use Rattle.turn_peers.proofs.LongestLemmas.{closed_by, open_by, open_outside, weaker, first_closed, second_closed, both_open}
use Rattle.turn_peers.proofs.laws.longest_prefix_decides.Goals as goal

pub returns-clause-denied : goal.returns-clause-denied
returns-clause-denied c denied allowed a port p among inside shorter =
    let P : PeerRange → Type 0 = λ q. allows a port q ≡ true → q.prefix.length ≤ p.prefix.length in
    let Q : PeerRange → Type 0 = λ q. allows a port q ≡ true → q.prefix.length < p.prefix.length + 1 in
    first_closed (is_open denied allowed 1 a port) (is_open DENIED_BY_DEFAULT allowed 0 a port)
    (closed_by denied allowed 1 a port p among inside
    (weaker P Q (λ q short is. omega (arith, short is)) allowed shorter))

pub returns-clause-by_default : goal.returns-clause-by_default
returns-clause-by_default c denied allowed a port p among inside shorter =
    let P : PeerRange → Type 0 = λ q. allows a port q ≡ true → q.prefix.length < p.prefix.length in
    let Q : PeerRange → Type 0 = λ q. allows a port q ≡ true → q.prefix.length < p.prefix.length + 0 in
    second_closed (is_open denied allowed 1 a port) (is_open DENIED_BY_DEFAULT allowed 0 a port)
    (closed_by DENIED_BY_DEFAULT allowed 0 a port p among inside
    (weaker P Q (λ q short is. omega (arith, short is)) allowed shorter))

pub returns-clause-allowed : goal.returns-clause-allowed
returns-clause-allowed c denied allowed a port q among inside shorter no_longer =
    let P : PeerRange → Type 0 = λ p. denies a port p ≡ true → p.prefix.length < q.prefix.length in
    let Q : PeerRange → Type 0 = λ p. denies a port p ≡ true → p.prefix.length + 1 ≤ q.prefix.length in
    let R : PeerRange → Type 0 = λ p. denies a port p ≡ true → p.prefix.length ≤ q.prefix.length in
    let S : PeerRange → Type 0 = λ p. denies a port p ≡ true → p.prefix.length + 0 ≤ q.prefix.length in
    both_open (is_open denied allowed 1 a port) (is_open DENIED_BY_DEFAULT allowed 0 a port)
    (open_by denied allowed 1 a port q among inside
    (weaker P Q (λ p short is. omega (arith, short is)) denied shorter))
    (open_by DENIED_BY_DEFAULT allowed 0 a port q among inside
    (weaker R S (λ p short is. omega (arith, short is)) DENIED_BY_DEFAULT no_longer))

pub returns-clause-no_range : goal.returns-clause-no_range
returns-clause-no_range c denied allowed a port outside outside_default =
    both_open (is_open denied allowed 1 a port) (is_open DENIED_BY_DEFAULT allowed 0 a port)
    (open_outside denied allowed 1 a port outside)
    (open_outside DENIED_BY_DEFAULT allowed 0 a port outside_default)
