-- When a state rests on what has happened.
use Rattle.std.proofs.Common.{◌≡◌, ℕ, ◌+◌, ◌≤◌, ◌⊎◌, inl, inr, true, false, List, ◌∷◌, ◌++◌, Option, None, refl, sym, ap, ◌∙◌, subst}
use Rattle.std.specs.Option.{option_map_or}
use Rattle.std.proofs.lemmas.Bool.{cond_both, cond-false}
use Rattle.std.specs.List.{AllByRecursion}
use Rattle.stun_endpoints.specs.declared.endpoints.Ip.{Ip}
use Rattle.stun_endpoints.specs.declared.endpoints.Endpoint.{Endpoint}
use Rattle.stun_endpoints.specs.declared.endpoints.FiveTuple.{FiveTuple}
use Rattle.turn_machine.specs.Lists.{SomeOf, SomeSince}
use Rattle.turn_machine.specs.Relays.{seconds, Permission, Channel, Relay, Setup}
use Rattle.turn_machine.specs.Events.{Request, bind, asks, done, answers}
use Rattle.turn_machine.specs.Data.{allows}
use Rattle.turn_machine.specs.Runs.{Happening}
use Rattle.turn_machine.specs.Warrants.{Opens, is_refresh, refreshed_in, refreshed_to, is_ended, end_of, names, Renews}
use Rattle.turn_machine.proofs.ListsLemmas.{each_map}

-- as `Permits` and `Binds`, until a moment
pub record Installs (tuple : FiveTuple) (user : ℕ) (ip : Ip) (expires_at : ℕ) (h : Happening) : Type 0 where
  pub request : Request
  pub asked : h.event ≡ asks tuple user request
  pub named : names ip request ≡ true
  pub allowed : h.rules.allows_ip ip ≡ true
  pub succeeded : h.output ≡ answers tuple done
  pub ends : h.moment + seconds 300 ≡ expires_at

pub record Attaches (tuple : FiveTuple) (user number : ℕ) (peer : Endpoint) (expires_at : ℕ) (h : Happening) : Type 0 where
  pub asked : h.event ≡ asks tuple user (bind number peer)
  pub allowed : allows h.rules peer ≡ true
  pub succeeded : h.output ≡ answers tuple done
  pub ends : h.moment + seconds 600 ≡ expires_at

-- as `BindsTo`
pub record AttachesTo (tuple : FiveTuple) (user : ℕ) (ip : Ip) (expires_at : ℕ) (h : Happening) : Type 0 where
  pub channel : ℕ
  pub peer : Endpoint
  pub ip_is : peer.ip ≡ ip
  pub attaches : Attaches tuple user channel peer expires_at h

-- as `ArePermitting`
abbrev pub AreInstalling : Setup → FiveTuple → (user : ℕ) → Ip → (expires_at : ℕ) → List Happening → Type 0
AreInstalling setup tuple user ip expires_at since =
    SomeOf (Installs tuple user ip expires_at) since ⊎ ((setup.channel_permits ≡ true) × SomeSince (AttachesTo tuple user ip expires_at) (λ h. ¬ (Renews tuple user ip h)) since)

pub record IsInstalled (setup : Setup) (since : List Happening) (tuple : FiveTuple) (user family : ℕ) (p : Permission) : Type 0 where
  pub by : AreInstalling setup tuple user p.ip p.expires_at since
  pub family_is : p.ip.family ≡ family

pub record IsAttached (since : List Happening) (tuple : FiveTuple) (user family : ℕ) (c : Channel) : Type 0 where
  pub by : SomeOf (Attaches tuple user c.number c.peer c.expires_at) since
  pub family_is : c.peer.ip.family ≡ family

pub record IsBacked (setup : Setup) (earlier : List Happening) (a : Relay) : Type 0 where
  pub since : List Happening
  pub opening : Happening
  pub before : List Happening
  pub split : earlier ≡ since ++ opening ∷ before
  pub opens : Opens a.tuple a.user a.family a.number opening
  pub kept : a.expires_at ≤ end_of a.tuple a.user a.family a.number (opening.moment + seconds opens.granted) since
  pub permissions : AllByRecursion (IsInstalled setup since a.tuple a.user a.family) a.permissions
  pub channels : AllByRecursion (IsAttached since a.tuple a.user a.family) a.channels

-- ---- It stays so

-- also after another happening that is no CreatePermission request for its IP address
pub installed_on : (setup : Setup) (h : Happening) (since : List Happening) (tuple : FiveTuple) (user family : ℕ) (p : Permission) → ¬ (Renews tuple user p.ip h) → IsInstalled setup since tuple user family p → IsInstalled setup (h ∷ since) tuple user family p
installed_on setup h since tuple user family p never is =
    let by : AreInstalling setup tuple user p.ip p.expires_at (h ∷ since) = elim is.by [
      | inl some ↦ inl (inr some)
      | inr long ↦ inr (long.0, inr (never, long.1))
    ] in
    record { by = by; family_is = is.family_is }

pub permissions_on : (setup : Setup) (h : Happening) (since : List Happening) (tuple : FiveTuple) (user family : ℕ) (ps : List Permission) → ((ip : Ip) → ¬ (Renews tuple user ip h)) → AllByRecursion (IsInstalled setup since tuple user family) ps → AllByRecursion (IsInstalled setup (h ∷ since) tuple user family) ps
permissions_on setup h since tuple user family ps never =
    each_map (IsInstalled setup since tuple user family) (IsInstalled setup (h ∷ since) tuple user family) (λ p is. installed_on setup h since tuple user family p (never p.ip) is) ps

pub channels_on : (h : Happening) (since : List Happening) (tuple : FiveTuple) (user family : ℕ) (cs : List Channel) → AllByRecursion (IsAttached since tuple user family) cs → AllByRecursion (IsAttached (h ∷ since) tuple user family) cs
channels_on h since tuple user family cs =
    each_map (IsAttached since tuple user family) (IsAttached (h ∷ since) tuple user family) (λ c is. record { by = inr is.by; family_is = is.family_is }) cs

pub backed_later : (setup : Setup) (h : Happening) (hs : List Happening) (a : Relay) (b : IsBacked setup hs a) → ((ip : Ip) → ¬ (Renews a.tuple a.user ip h))
    → a.expires_at ≤ end_of a.tuple a.user a.family a.number (b.opening.moment + seconds b.opens.granted) (h ∷ b.since) → IsBacked setup (h ∷ hs) a
backed_later setup h hs a b never end = record {
  since = h ∷ b.since;
  opening = b.opening;
  before = b.before;
  split = ap (λ (l : List Happening). h ∷ l) b.split;
  opens = b.opens;
  kept = end;
  permissions = permissions_on setup h b.since a.tuple a.user a.family a.permissions never b.permissions;
  channels = channels_on h b.since a.tuple a.user a.family a.channels b.channels;
}

-- the end stays, unless a Refresh request of the client succeeds, or the caller ends it
pub end_on : (setup : Setup) (h : Happening) (hs : List Happening) (a : Relay) (b : IsBacked setup hs a) → is_ended a.user a.number h.event ≡ false → refreshed_to a.tuple a.user a.family h ≡ None
    → a.expires_at ≤ end_of a.tuple a.user a.family a.number (b.opening.moment + seconds b.opens.granted) (h ∷ b.since)
end_on setup h hs a b not_ended not_refreshed =
    let rest = end_of a.tuple a.user a.family a.number (b.opening.moment + seconds b.opens.granted) b.since in
    subst (λ (n : ℕ). a.expires_at ≤ n)
    (sym (cond-false (is_ended a.user a.number h.event) 0 (option_map_or (λ lifetime. h.moment + seconds lifetime) (refreshed_to a.tuple a.user a.family h) rest) not_ended
    ∙ ap (λ (o : Option ℕ). option_map_or (λ lifetime. h.moment + seconds lifetime) o rest) not_refreshed)) b.kept

pub backed_on : (setup : Setup) (h : Happening) (hs : List Happening) (a : Relay) → is_ended a.user a.number h.event ≡ false → refreshed_to a.tuple a.user a.family h ≡ None → ((ip : Ip) → ¬ (Renews a.tuple a.user ip h)) → IsBacked setup hs a → IsBacked setup (h ∷ hs) a
backed_on setup h hs a not_ended not_refreshed never b = backed_later setup h hs a b never (end_on setup h hs a b not_ended not_refreshed)

pub not_refreshed : (tuple : FiveTuple) (user family : ℕ) (h : Happening) → refreshed_in h.output ≡ None → refreshed_to tuple user family h ≡ None
not_refreshed tuple user family h quiet = cond_both (is_refresh tuple user family h.event) (refreshed_in h.output) None (λ (o : Option ℕ). o ≡ None) (λ _. quiet) (λ _. refl)

pub not_refresh : (tuple : FiveTuple) (user family : ℕ) (h : Happening) → is_refresh tuple user family h.event ≡ false → refreshed_to tuple user family h ≡ None
not_refresh tuple user family h isnt = cond-false (is_refresh tuple user family h.event) (refreshed_in h.output) None isnt
