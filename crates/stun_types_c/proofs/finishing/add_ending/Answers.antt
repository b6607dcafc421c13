use Rattle.std.proofs.Common.{◌∷◌, rules}
use Rattle.stun_grammar.specs.Steps.{sign}
use Rattle.stun_keys.specs.Keys.{key_algorithm, key_bytes}
use Rattle.stun_authentication.specs.Writing.{print_steps}
use Rattle.stun_types_c.proofs.TakenInLemmas.{room_long, ended, finished_by, few_ending}
use Rattle.stun_types_c.proofs.finishing.add_ending.Goals as goal

pub store_end-requires : goal.store_end-requires
store_end-requires c =
    let steps = sign c.args.algorithm (key_bytes c.args.key.now) ∷ print_steps c.args.fingerprint in
    let takes = finished_by (key_algorithm c.args.key.now) c.args.algorithm c.finish_reply_with_key-added.result _ _ _ steps c.requires c.finish_reply_with_key-added.ensures in
    let long = room_long _ _ _ _ c.resume_at-write.ensures steps c.finish_reply_with_key-added.result _ _ takes c.finish-end.ensures.slice in
    search (rules, long)

pub returns : goal.returns
returns c =
    let key = key_bytes c.args.key.now in
    let steps = sign c.args.algorithm key ∷ print_steps c.args.fingerprint in
    let place = c.in-Ok.ensures.0 in
    let takes = finished_by (key_algorithm c.args.key.now) c.args.algorithm c.finish_reply_with_key-added.result _ _ _ steps c.requires c.finish_reply_with_key-added.ensures in
    ended c.args.room.now c.args.written.now _ _ (rw place at c.resume_at-write.ensures) steps c.finish_reply_with_key-added.result _ _ c.room-1.given.0 _ c.store_end.result _
    (few_ending c.args.algorithm key c.args.fingerprint) (rw place at c.in-Ok.ensures.1.fault) takes (rw c.data.ensures.value at c.header_of-header.ensures) (search (rules, c.finish-end.ensures.slice)) c.finish-end.ensures.written c.store_end.ensures
