use Rattle.std.proofs.Common.{◌≡◌, false, [], ◌∷◌, codes, None, Some, refl}
use Rattle.stun_grammar.specs.declared.integrity_algorithm.IntegrityAlgorithm.TheVariants.{Sha1}
use Rattle.stun_authentication.specs.declared.answer.Refusal.TheVariants.{Unauthenticated, StaleNonce}
use Rattle.stun_authentication.specs.Lookups.{UserKey, key_made}
use Rattle.turn_machine.specs.Events.{refresh as refreshing, permit as permitting, bind as binding}
use Rattle.turn_allocations.specs.declared.request.Want.TheVariants.{No, Ready}
use Rattle.turn_server.specs.Acting.{drops, sends_to}
use Rattle.turn_server.specs.Judging.{refused, sent, sent_on, asked}
use Rattle.turn_server.specs.Wanted.{opening, other}
use Rattle.usage_vectors.specs.SessionOctets.{allocate_unsigned, answer_1, allocate, answer_2, permit, answer_3, bind, answer_4, send, channel_data, refresh_stale, answer_7, refresh, answer_8, refresh_again, answer_9, send_again}
use Rattle.usage_vectors.specs.TurnSession.{relayed, channel_peer, alice, alice_key, at_first, later, nothing_kept, challenged, allocated, permitted, bound, aged, ended}
use Rattle.usage_vectors.proofs.Computing.{authenticating}
use Rattle.usage_vectors.proofs.SessionLemmas.{judged, answers, does, kept_more, none_kept}
use Rattle.usage_vectors.proofs.session.turn_session_is_right.Goals as goal

abbrev key : UserKey
key = key_made (Some Sha1) alice_key

pub returns-clause-key : goal.returns-clause-key
unfolding authenticating
returns-clause-key c = refl

-- ---- What each datagram is

is_challenged : judged at_first allocate_unsigned ≡ refused Unauthenticated
unfolding authenticating
is_challenged = refl

is_allocate : judged at_first allocate ≡ asked alice (opening 2 (Some 1200) (record { ipv4 = Ready relayed; ipv6 = No })) key Sha1
unfolding authenticating
is_allocate = refl

is_permit : judged at_first permit ≡ asked alice (other (permitting (channel_peer ∷ []))) key Sha1
unfolding authenticating
is_permit = refl

is_bind : judged at_first bind ≡ asked alice (other (binding 0x4000 channel_peer)) key Sha1
unfolding authenticating
is_bind = refl

is_send : judged at_first send ≡ sent channel_peer false (codes "hello")
unfolding authenticating
is_send = refl

is_channel_data : judged at_first channel_data ≡ sent_on 0x4000 (codes "hello")
unfolding authenticating
is_channel_data = refl

is_stale : judged later refresh_stale ≡ refused StaleNonce
unfolding authenticating
is_stale = refl

is_refresh : judged later refresh ≡ asked alice (other (refreshing None (Some 0))) key Sha1
unfolding authenticating
is_refresh = refl

is_refresh_again : judged later refresh_again ≡ asked alice (other (refreshing None None)) key Sha1
unfolding authenticating
is_refresh_again = refl

is_send_again : judged later send_again ≡ sent channel_peer false (codes "hello")
unfolding authenticating
is_send_again = refl

-- ---- What comes of it

pub returns-clause-challenge : goal.returns-clause-challenge
unfolding authenticating
returns-clause-challenge c =
    answers at_first nothing_kept allocate_unsigned (refused Unauthenticated) (Some 401) answer_1 challenged [] is_challenged (λ access. refl) refl refl refl

pub returns-clause-allocate : goal.returns-clause-allocate
unfolding authenticating
returns-clause-allocate c =
    answers at_first challenged allocate (asked alice (opening 2 (Some 1200) (record { ipv4 = Ready relayed; ipv6 = No })) key Sha1) None answer_2 allocated [] is_allocate (λ access. refl) refl refl refl

pub returns-clause-permit : goal.returns-clause-permit
unfolding authenticating
returns-clause-permit c =
    answers at_first allocated permit (asked alice (other (permitting (channel_peer ∷ []))) key Sha1) None answer_3 permitted [] is_permit (λ access. refl) refl refl refl

pub returns-clause-bind : goal.returns-clause-bind
unfolding authenticating
returns-clause-bind c =
    answers at_first permitted bind (asked alice (other (binding 0x4000 channel_peer)) key Sha1) None answer_4 bound [] is_bind (λ access. refl) refl refl refl

pub returns-clause-send : goal.returns-clause-send
unfolding authenticating
returns-clause-send c =
    does at_first bound send (sent channel_peer false (codes "hello")) (sends_to 1 channel_peer false (codes "hello")) is_send refl refl refl

pub returns-clause-channel_data : goal.returns-clause-channel_data
unfolding authenticating
returns-clause-channel_data c =
    does at_first bound channel_data (sent_on 0x4000 (codes "hello")) (sends_to 1 channel_peer false (codes "hello")) is_channel_data refl refl refl

pub returns-clause-indication : goal.returns-clause-indication
unfolding authenticating
returns-clause-indication c = record {
  output = refl;
  has_room = refl;
  octets_are = refl;
  leaves = record { after_is = refl; closes_are = refl };
}

pub returns-clause-on_channel : goal.returns-clause-on_channel
unfolding authenticating
returns-clause-on_channel c = record {
  output = refl;
  has_room = refl;
  octets_are = refl;
  leaves = record { after_is = refl; closes_are = refl };
}

pub returns-clause-stale : goal.returns-clause-stale
unfolding authenticating
returns-clause-stale c =
    answers later bound refresh_stale (refused StaleNonce) (Some 438) answer_7 aged [] is_stale (λ access. refl) refl refl refl

pub returns-clause-refresh : goal.returns-clause-refresh
unfolding authenticating
returns-clause-refresh c =
    answers later aged refresh (asked alice (other (refreshing None (Some 0))) key Sha1) None answer_8 ended (1 ∷ []) is_refresh (λ access. refl) refl refl refl

pub returns-clause-again : goal.returns-clause-again
unfolding authenticating
returns-clause-again c =
    answers later ended refresh_again (asked alice (other (refreshing None None)) key Sha1) (Some 437) answer_9 ended [] is_refresh_again (λ access. refl) refl refl refl

pub returns-clause-send_again : goal.returns-clause-send_again
unfolding authenticating
returns-clause-send_again c =
    does later ended send_again (sent channel_peer false (codes "hello")) drops is_send_again refl refl refl

pub returns-clause-whole : goal.returns-clause-whole
returns-clause-whole c = λ access s.
    let after_challenge = kept_more none_kept (returns-clause-challenge c access s).leaves in
    let after_allocate = kept_more after_challenge (returns-clause-allocate c access s).leaves in
    let after_permit = kept_more after_allocate (returns-clause-permit c access s).leaves in
    let after_bind = kept_more after_permit (returns-clause-bind c access s).leaves in
    let after_send = kept_more after_bind (returns-clause-send c access s).leaves in
    let after_channel_data = kept_more after_send (returns-clause-channel_data c access s).leaves in
    let after_indication = kept_more after_channel_data (returns-clause-indication c).leaves in
    let after_on_channel = kept_more after_indication (returns-clause-on_channel c).leaves in
    let after_stale = kept_more after_on_channel (returns-clause-stale c access s).leaves in
    let after_refresh = kept_more after_stale (returns-clause-refresh c access s).leaves in
    let after_again = kept_more after_refresh (returns-clause-again c access s).leaves in
    let after_send_again = kept_more after_again (returns-clause-send_again c access s).leaves in
    after_send_again.is
