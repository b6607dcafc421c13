use Rattle.stun_grammar.proofs.AcceptingLemmas.{is_authentic, is_authentic_through}
use Rattle.stun_authentication.proofs.AcceptingLoginsLemmas.{long_term_proof, long_term_login}
use Rattle.stun_authentication.proofs.AcceptingRowsLemmas.{proved, proved_by_both, short_term_proof, users_login}
use Rattle.stun_authentication.proofs.laws.accepted_is_authentic.Goals as goal

pub returns-clause-users : goal.returns-clause-users
returns-clause-users c = users_login

pub returns-clause-login : goal.returns-clause-login
returns-clause-login c = long_term_login

pub returns-clause-short_term : goal.returns-clause-short_term
returns-clause-short_term c = λ policy keys d user key a reply bytes parsed e.
    let by = proved policy d key a (short_term_proof policy keys d user key a reply e) in
    rw by.counts (is_authentic_through by.served (λ _. key.bytes) d a bytes parsed by.answer)

pub returns-clause-long_term : goal.returns-clause-long_term
returns-clause-long_term c = λ policy realm nonces keys d user key a reply bytes parsed e.
    let by = proved policy d key a (long_term_proof policy realm nonces keys d user key a reply e) in
    rw by.counts (is_authentic_through by.served (λ _. key.bytes) d a bytes parsed by.answer)

pub returns-clause-short_term_whole : goal.returns-clause-short_term_whole
returns-clause-short_term_whole c = λ policy keys d user key a reply bytes parsed both e.
    is_authentic (λ _. key.bytes) d a bytes parsed (proved_by_both policy d key a both (short_term_proof policy keys d user key a reply e))

pub returns-clause-long_term_whole : goal.returns-clause-long_term_whole
returns-clause-long_term_whole c = λ policy realm nonces keys d user key a reply bytes parsed both e.
    is_authentic (λ _. key.bytes) d a bytes parsed (proved_by_both policy d key a both (long_term_proof policy realm nonces keys d user key a reply e))
