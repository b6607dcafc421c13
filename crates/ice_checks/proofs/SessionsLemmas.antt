-- The USERNAME of a check of the peer.
use Rattle.std.proofs.Common.{◌≡◌, ℕ, Bool, true, false, List, ◌++◌, length, take, drop, Option, Some, None, refl, sym, ap, ◌∙◌, append_assoc, if◌then◌else◌}
use Rattle.std.specs.Prelude.{IfSome, codes, nat_eq, option_and_then}
use Rattle.std.specs.Cmp.Lexicographic.{pointwise, bytes_decides}
use Rattle.std.specs.Option.{option_map_or}
use Rattle.std.proofs.lemmas.List.{take-append-drop}
use Rattle.std.proofs.Math.Seq.{take-append_seam, drop-append_seam}
use Rattle.ice_checks.specs.Views.{Login, Logins}
use Rattle.ice_checks.specs.Sessions.{IsUsernameOf, after, is_named, is_sender, sender_in, username_of}

-- what follows a beginning
begun : (beginning text rest : List ℕ) → after beginning text ≡ Some rest → text ≡ beginning ++ rest
begun beginning text rest is = by (pointwise nat_eq (take (length beginning) text) beginning) refl is
  where
    by : (b : Bool) → pointwise nat_eq (take (length beginning) text) beginning ≡ b → (if b then Some (drop (length beginning) text) else None) ≡ Some rest → text ≡ beginning ++ rest
    by true same is =
        let head : take (length beginning) text ≡ beginning = (bytes_decides (take (length beginning) text) beginning).0 same in
        let tail : drop (length beginning) text ≡ rest = cc in
        sym (take-append-drop (length beginning) text) ∙ ap (λ (h : List ℕ). h ++ drop (length beginning) text) head ∙ ap (λ (t : List ℕ). beginning ++ t) tail
    by false same is = absurd cc

follows : (beginning rest : List ℕ) → after beginning (beginning ++ rest) ≡ Some rest
follows beginning rest =
    let same : pointwise nat_eq (take (length beginning) (beginning ++ rest)) beginning ≡ true = (bytes_decides (take (length beginning) (beginning ++ rest)) beginning).1 (take-append_seam beginning rest) in
    ap (λ (b : Bool). if b then Some (drop (length beginning) (beginning ++ rest)) else None) same ∙ ap (λ (t : List ℕ). Some t) (drop-append_seam beginning rest)

sender_there : (receiver username sender : List ℕ) → sender_in receiver username ≡ Some sender → username ≡ username_of receiver sender
sender_there receiver username sender is = by (after receiver username) refl is
  where
    by : (o : Option (List ℕ)) → after receiver username ≡ o → option_and_then (after (codes ":")) o ≡ Some sender → username ≡ username_of receiver sender
    by None found is = absurd cc
    by (Some rest) found is = begun receiver username rest found ∙ ap (λ (t : List ℕ). receiver ++ t) (begun (codes ":") rest sender is) ∙ sym (append_assoc receiver (codes ":") sender)

sender_found : (receiver sender : List ℕ) → sender_in receiver (username_of receiver sender) ≡ Some sender
sender_found receiver sender =
    ap (λ (u : List ℕ). option_and_then (after (codes ":")) (after receiver u)) (append_assoc receiver (codes ":") sender)
    ∙ ap (λ (o : Option (List ℕ)). option_and_then (after (codes ":")) o) (follows receiver (codes ":" ++ sender)) ∙ follows (codes ":") sender

is_peer : (peer : Option Login) (sender : List ℕ) → is_sender peer sender ≡ true → IfSome peer (λ p. sender ≡ p.fragment)
is_peer None sender is = tt
is_peer (Some p) sender is = (bytes_decides sender p.fragment).0 is

peer_is : (peer : Option Login) (sender : List ℕ) → IfSome peer (λ p. sender ≡ p.fragment) → is_sender peer sender ≡ true
peer_is None sender is = refl
peer_is (Some p) sender is = (bytes_decides sender p.fragment).1 is

pub named_is_username : (logins : Logins) (username : List ℕ) → is_named logins username ≡ true → IsUsernameOf logins username
named_is_username logins username is = by (sender_in logins.own.fragment username) refl is
  where
    by : (o : Option (List ℕ)) → sender_in logins.own.fragment username ≡ o → option_map_or (is_sender logins.peer) o false ≡ true → IsUsernameOf logins username
    by None found is = absurd cc
    by (Some sender) found is = record { sender = sender; joined = sender_there logins.own.fragment username sender found; sender_is = is_peer logins.peer sender is }

pub username_is_named : (logins : Logins) (username : List ℕ) → IsUsernameOf logins username → is_named logins username ≡ true
username_is_named logins username is =
    ap (λ (u : List ℕ). is_named logins u) is.joined
    ∙ ap (λ (o : Option (List ℕ)). option_map_or (is_sender logins.peer) o false) (sender_found logins.own.fragment is.sender) ∙ peer_is logins.peer is.sender is.sender_is
