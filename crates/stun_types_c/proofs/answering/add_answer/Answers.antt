use Rattle.std.proofs.Common.{rules}
use Rattle.stun_keys.specs.Keys.{key_algorithm, key_bytes}
use Rattle.stun_authentication.specs.Challenges.{retry_of}
use Rattle.stun_authentication.specs.Requests.{login_steps}
use Rattle.stun_types_c.proofs.TakenInLemmas.{room_long, ended, answered_with, few_login}
use Rattle.stun_types_c.proofs.answering.add_answer.Goals as goal

pub store_end-requires : goal.store_end-requires
store_end-requires c =
    let retry = retry_of c.args.retry.now in
    let key = key_bytes c.args.key.now in
    let takes = answered_with retry c.args.name.now (key_algorithm c.args.key.now) key c.args.fingerprint c.answer_challenge_with_key-added.result _ _ c.requires.short c.requires.serving c.answer_challenge_with_key-added.ensures in
    let long = room_long _ _ _ _ c.resume_at-write.ensures (login_steps c.args.fingerprint retry c.args.name.now key) c.answer_challenge_with_key-added.result _ _ takes c.finish-end.ensures.slice in
    search (rules, long)

pub returns : goal.returns
returns c =
    let retry = retry_of c.args.retry.now in
    let key = key_bytes c.args.key.now in
    let place = c.in-Ok.ensures.0 in
    let takes = answered_with retry c.args.name.now (key_algorithm c.args.key.now) key c.args.fingerprint c.answer_challenge_with_key-added.result _ _ c.requires.short c.requires.serving c.answer_challenge_with_key-added.ensures in
    ended c.args.room.now c.args.written.now _ _ (rw place at c.resume_at-write.ensures) (login_steps c.args.fingerprint retry c.args.name.now key) c.answer_challenge_with_key-added.result _ _ c.room-1.given.0 _ c.store_end.result _
    (few_login c.args.fingerprint retry c.args.name.now key) (rw place at c.in-Ok.ensures.1.fault) takes (rw c.data.ensures.value at c.header_of-header.ensures) (search (rules, c.finish-end.ensures.slice)) c.finish-end.ensures.written c.store_end.ensures
