-- What is spelled is read, and what is read is spelled.
use Rattle.std.proofs.Common.{◌≡◌, ℕ, Bool, true, false, cond, List, [], ◌∷◌, ◌++◌, Option, Some, None, Result, Ok, Err, refl, sym, ap, subst, ◌∙◌, inl, inr}
use Rattle.std.specs.Prelude.{codes, ◌&&◌, not, map, bytes_eq}
use Rattle.std.specs.List.{list_all, AllByRecursion}
use Rattle.std.specs.Char.{to_ascii_lowercase}
use Rattle.std.proofs.lemmas.Bool.{cases_Bool, and_parts}
use Rattle.std.proofs.lemmas.Slice.Eq.{bytes_eq-Decides}
use Rattle.std.specs.Net.Reader.{read_ipv4, read_ipv6, read_octet, read_number, read_segments, read_segment}
use Rattle.ice_candidates.specs.declared.errors.Stop.{Stop}
use Rattle.ice_candidates.specs.declared.errors.Wanted.{Wanted}
use Rattle.ice_candidates.specs.declared.errors.Wanted.TheVariants as wanted
use Rattle.ice_candidates.specs.Chars.{is_token, is_visible}
use Rattle.ice_candidates.specs.Candidates.{Place, Kind, Fields}
use Rattle.ice_candidates.specs.Words.{first_word, other_words}
use Rattle.ice_candidates.specs.Fields.{is_word, foundation_of, component_of, protocol_of, priority_of, place_of, port_of, kind_of, is_extension_name, ip_of}
use Rattle.ice_candidates.specs.Reading.{◌>>=◌, stop, taken, field, some, kind_at, related_address_at, related_port_at, extensions_fault, pairs_of, or_fault, extensions_at, candidate_at}
use Rattle.ice_candidates.specs.Grammar.{IsRelatedAddress, IsRelatedPort, IsExtension, extension_words, IsSpelled}

-- ---- What a chain of reads went through

pub bind_ok : {A B : Type 0} (r : Result A Stop) (f : A → Result B Stop) (y : B) → (r >>= f) ≡ Ok y → (x : A) × (r ≡ Ok x) × (f x ≡ Ok y)
bind_ok (Ok x) f y e = (x, refl, e)
bind_ok (Err stopped) f y e = absurd (cc)

ok_is : {A : Type 0} (x y : A) → ◌≡◌ {A = Result A Stop} (Ok x) (Ok y) → x ≡ y
ok_is x y e = cc

guard : {A : Type 0} (b : Bool) (r : Result A Stop) (e : Stop) (x : A) → cond b r (Err e) ≡ Ok x → (b ≡ true) × (r ≡ Ok x)
guard true r e x h = (refl, h)
guard false r e x h = absurd (cc)

-- ---- One field

taken_ok : {A : Type 0} (o : Option A) (fault : Stop) (more : List (List ℕ)) (x : A × List (List ℕ)) → taken o fault more ≡ Ok x → (o ≡ Some x.0) × (more ≡ x.1)
taken_ok None fault more x e = absurd (cc)
taken_ok {A} (Some v) fault more x e =
    let same = ok_is (v, more) x e in
    (ap (λ (p : A × List (List ℕ)). Some p.0) same, ap (λ (p : A × List (List ℕ)). p.1) same)

field_takes : {A : Type 0} (of : List ℕ → Option A) (what : Wanted) (ws : List (List ℕ)) (x : A × List (List ℕ)) → of [] ≡ None → field of what ws ≡ Ok x
    → (w : List ℕ) × (ws ≡ w ∷ x.1) × (of w ≡ Some x.0)
field_takes {A} of what [] x none e =
    let failed : ◌≡◌ {A = Result (A × List (List ℕ)) Stop} (Err (stop what [])) (Ok x) = sym (ap (λ o. taken o (stop what []) []) none) ∙ e in
    absurd (cc failed)
field_takes of what (w ∷ ws) x none e =
    let parts = taken_ok (of w) (stop what (w ∷ ws)) ws x e in
    (w, ap (λ (l : List (List ℕ)). w ∷ l) parts.1, parts.0)

field_again : {A : Type 0} (of : List ℕ → Option A) (what : Wanted) (w : List ℕ) (ws : List (List ℕ)) (v : A) → of w ≡ Some v → field of what (w ∷ ws) ≡ Ok (v, ws)
field_again of what w ws v e = ap (λ o. taken o (stop what (w ∷ ws)) ws) e

no_place : place_of [] ≡ None
unfolding ip_of read_ipv4 read_octet read_number read_ipv6 read_segments read_segment
no_place = refl

-- ---- The type

kind_takes : (ws : List (List ℕ)) (x : Kind × List (List ℕ)) → kind_at ws ≡ Ok x
    → (typ kind : List ℕ) × (ws ≡ typ ∷ kind ∷ x.1) × (is_word (codes "typ") typ ≡ true) × (kind_of kind ≡ Some x.0)
kind_takes [] x e = absurd (cc)
kind_takes (t ∷ ws) x e =
    let typ = guard (is_word (codes "typ") t) (field kind_of wanted.Kind ws) (stop wanted.Typ (t ∷ ws)) x e in
    let (k, split, is) = field_takes kind_of wanted.Kind ws x refl typ.1 in
    (t, k, ap (λ (l : List (List ℕ)). t ∷ l) split, typ.0, is)

kind_again : (typ kind : List ℕ) (ws : List (List ℕ)) (k : Kind) → is_word (codes "typ") typ ≡ true → kind_of kind ≡ Some k → kind_at (typ ∷ kind ∷ ws) ≡ Ok (k, ws)
kind_again typ kind ws k e f = rw e (field_again kind_of wanted.Kind kind ws k f)

-- ---- The related address and port

some_ok : {A : Type 0} (r : Result (A × List (List ℕ)) Stop) (x : Option A × List (List ℕ)) → some r ≡ Ok x → (y : A × List (List ℕ)) × (r ≡ Ok y) × ((Some y.0, y.1) ≡ x)
some_ok (Ok y) x e = (y, refl, ok_is (Some y.0, y.1) x e)
some_ok (Err stopped) x e = absurd (cc)

-- an optional word and the value after it
abbrev optional_at : {A : Type 0} (quoted : List ℕ) → (List ℕ → Option A) → Wanted → List (List ℕ) → Result (Option A × List (List ℕ)) Stop
optional_at quoted of what left =
    cond (is_word quoted (first_word left)) (some (field of what (other_words left))) (Ok (None, left))

abbrev IsOptional : {A : Type 0} (quoted : List ℕ) → (List ℕ → Option A) → List (List ℕ) → Option A → Type 0
IsOptional quoted of ws None = ws ≡ []
IsOptional quoted of ws (Some v) =
    (q w : List ℕ) × (ws ≡ q ∷ w ∷ []) × (is_word quoted q ≡ true) × (of w ≡ Some v)

optional_some : {A : Type 0} (quoted : List ℕ) (of : List ℕ → Option A) (what : Wanted) (q : List ℕ) (ws : List (List ℕ)) (x : Option A × List (List ℕ)) → of [] ≡ None → is_word quoted q ≡ true
    → some (field of what ws) ≡ Ok x → (front : List (List ℕ)) × ((q ∷ ws) ≡ front ++ x.1) × IsOptional quoted of front x.0
optional_some {A} quoted of what q ws x none is e =
    let (y, read, same) = some_ok (field of what ws) x e in
    let (w, split, value) = field_takes of what ws y none read in
    subst (λ (x : Option A × List (List ℕ)). (front : List (List ℕ)) × ((q ∷ ws) ≡ front ++ x.1) × IsOptional quoted of front x.0) same
    (q ∷ w ∷ [], ap (λ (l : List (List ℕ)). q ∷ l) split, (q, w, refl, is, value))

optional_none : {A : Type 0} (quoted : List ℕ) (of : List ℕ → Option A) (ws : List (List ℕ)) (x : Option A × List (List ℕ)) → ◌≡◌ {A = Result (Option A × List (List ℕ)) Stop} (Ok (None, ws)) (Ok x)
    → (front : List (List ℕ)) × (ws ≡ front ++ x.1) × IsOptional quoted of front x.0
optional_none {A} quoted of ws x e =
    subst (λ (x : Option A × List (List ℕ)). (front : List (List ℕ)) × (ws ≡ front ++ x.1) × IsOptional quoted of front x.0) (ok_is (None, ws) x e) ([], refl, refl)

optional_takes : {A : Type 0} (quoted : List ℕ) (of : List ℕ → Option A) (what : Wanted) (ws : List (List ℕ)) (x : Option A × List (List ℕ)) → of [] ≡ None → is_word quoted [] ≡ false
    → optional_at quoted of what ws ≡ Ok x → (front : List (List ℕ)) × (ws ≡ front ++ x.1) × IsOptional quoted of front x.0
optional_takes quoted of what [] x none unlike e = optional_none quoted of [] x (rw unlike at e)
optional_takes quoted of what (q ∷ ws) x none unlike e = elim (cases_Bool (is_word quoted q)) [
  | inl is ↦ optional_some quoted of what q ws x none is (rw is at e)
  | inr other ↦ optional_none quoted of (q ∷ ws) x (rw other at e)
]

optional_again : {A : Type 0} (quoted : List ℕ) (of : List ℕ → Option A) (what : Wanted) (front rest : List (List ℕ)) (o : Option A) → IsOptional quoted of front o → is_word quoted (first_word rest) ≡ false
    → optional_at quoted of what (front ++ rest) ≡ Ok (o, rest)
optional_again quoted of what front rest None e other = rw (e, other) refl
optional_again quoted of what front rest (Some v) (q, w, e, is, value) other =
    rw (e, is) (ap some (field_again of what w rest v value))

-- the two optional words
address_optional : (o : Option Place) (ws : List (List ℕ)) → IsRelatedAddress ws o → IsOptional (codes "raddr") place_of ws o
address_optional None ws h = h
address_optional (Some a) ws h = h

port_optional : (o : Option ℕ) (ws : List (List ℕ)) → IsRelatedPort ws o → IsOptional (codes "rport") port_of ws o
port_optional None ws h = h
port_optional (Some n) ws h = h

related_address_is : (o : Option Place) (ws : List (List ℕ)) → IsOptional (codes "raddr") place_of ws o → IsRelatedAddress ws o
related_address_is None ws h = h
related_address_is (Some a) ws h = h

related_port_is : (o : Option ℕ) (ws : List (List ℕ)) → IsOptional (codes "rport") port_of ws o → IsRelatedPort ws o
related_port_is None ws h = h
related_port_is (Some n) ws h = h

-- ---- Extensions

exts_take : (ws : List (List ℕ)) → extensions_fault ws ≡ None → (ws ≡ extension_words (pairs_of ws)) × AllByRecursion IsExtension (pairs_of ws)
exts_take [] e = (refl, tt)
exts_take (n ∷ []) e = absurd (cc)
exts_take (n ∷ v ∷ ws) e = elim (cases_Bool (is_extension_name n)) [
  | inl named ↦ elim (cases_Bool (list_all is_visible v)) [
    | inl seen ↦
        let rest : extensions_fault ws ≡ None = rw (named, seen) at e in
        let others = exts_take ws rest in
        (ap (λ (l : List (List ℕ)). n ∷ v ∷ l) others.0, (record { name = named; value = seen }, others.1))
    | inr not_seen ↦ absurd (let fault : ◌≡◌ {A = Option Stop} (Some (stop wanted.ExtensionValue (v ∷ ws))) None = rw (named, not_seen) at e in cc fault)
  ]
  | inr not_named ↦ absurd (let fault : ◌≡◌ {A = Option Stop} (Some (stop wanted.ExtensionName (n ∷ v ∷ ws))) None = rw not_named at e in cc fault)
]

or_fault_ok : {A : Type 0} (o : Option Stop) (v x : A) → or_fault o v ≡ Ok x → (o ≡ None) × (v ≡ x)
or_fault_ok None v x e = (refl, ok_is v x e)
or_fault_ok (Some fault) v x e = absurd (cc)

exts_fault : (ps : List (List ℕ × List ℕ)) → AllByRecursion IsExtension ps → extensions_fault (extension_words ps) ≡ None
exts_fault [] all = refl
exts_fault (p ∷ ps) all = rw (all.0.name, all.0.value) (exts_fault ps all.1)

exts_pairs : (ps : List (List ℕ × List ℕ)) → pairs_of (extension_words ps) ≡ ps
exts_pairs [] = refl
exts_pairs (p ∷ ps) = ap (λ (l : List (List ℕ × List ℕ)). p ∷ l) (exts_pairs ps)

extensions_again : (ps : List (List ℕ × List ℕ)) → AllByRecursion IsExtension ps → extensions_at (extension_words ps) ≡ Ok ps
extensions_again ps all = rw (exts_fault ps all, exts_pairs ps) refl

pub not_true : (b : Bool) → not b ≡ true → b ≡ false
not_true true e = absurd (cc)
not_true false e = refl

-- the words of extensions begin with none of the two quoted words
no_raddr : (ps : List (List ℕ × List ℕ)) → AllByRecursion IsExtension ps → is_word (codes "raddr") (first_word (extension_words ps)) ≡ false
no_raddr [] all = refl
no_raddr (p ∷ ps) all =
    let names = (and_parts (is_token p.0) (not (is_word (codes "raddr") p.0) && not (is_word (codes "rport") p.0)) all.0.name).1 in
    not_true _ (and_parts (not (is_word (codes "raddr") p.0)) (not (is_word (codes "rport") p.0)) names).0

no_rport : (ps : List (List ℕ × List ℕ)) → AllByRecursion IsExtension ps → is_word (codes "rport") (first_word (extension_words ps)) ≡ false
no_rport [] all = refl
no_rport (p ∷ ps) all =
    let names = (and_parts (is_token p.0) (not (is_word (codes "raddr") p.0) && not (is_word (codes "rport") p.0)) all.0.name).1 in
    not_true _ (and_parts (not (is_word (codes "raddr") p.0)) (not (is_word (codes "rport") p.0)) names).1

-- a word is one quoted word at most
pub other_word : (quoted other w : List ℕ) → map to_ascii_lowercase quoted ≡ quoted → is_word quoted w ≡ true → bytes_eq (map to_ascii_lowercase quoted) (map to_ascii_lowercase other) ≡ false → is_word other w ≡ false
other_word quoted other w low is differ =
    let same : map to_ascii_lowercase w ≡ map to_ascii_lowercase quoted = (bytes_eq-Decides (map to_ascii_lowercase w) (map to_ascii_lowercase quoted)).0 is in
    ap (λ (l : List ℕ). bytes_eq l (map to_ascii_lowercase other)) same ∙ differ

port_not_raddr : (front : List (List ℕ)) (o : Option ℕ) (ps : List (List ℕ × List ℕ)) → IsRelatedPort front o → AllByRecursion IsExtension ps → is_word (codes "raddr") (first_word (front ++ extension_words ps)) ≡ false
port_not_raddr front None ps e all = rw e (no_raddr ps all)
port_not_raddr front (Some n) ps (q, w, e, is, value) all = rw e (other_word (codes "rport") (codes "raddr") q refl is refl)

-- ---- A candidate

pub spelled_read : (ws : List (List ℕ)) (c : Fields) (s : IsSpelled ws c) → candidate_at ws ≡ Ok c
unfolding candidate_at
spelled_read ws c s =
    let exts = extension_words c.extensions in
    let after_port = s.related_port ++ exts in
    let after_kind = s.related_address ++ after_port in
    ap candidate_at s.spelled ∙
    rw (
      field_again foundation_of wanted.Foundation s.foundation (s.component ∷ s.protocol ∷ s.priority ∷ s.address ∷ s.port ∷ s.typ ∷ s.kind ∷ after_kind) c.foundation s.foundation_is,
      field_again component_of wanted.Component s.component (s.protocol ∷ s.priority ∷ s.address ∷ s.port ∷ s.typ ∷ s.kind ∷ after_kind) c.component s.component_is,
      field_again protocol_of wanted.Transport s.protocol (s.priority ∷ s.address ∷ s.port ∷ s.typ ∷ s.kind ∷ after_kind) c.protocol s.protocol_is,
      field_again priority_of wanted.Priority s.priority (s.address ∷ s.port ∷ s.typ ∷ s.kind ∷ after_kind) c.priority s.priority_is,
      field_again place_of wanted.Address s.address (s.port ∷ s.typ ∷ s.kind ∷ after_kind) c.address s.address_is,
      field_again port_of wanted.Port s.port (s.typ ∷ s.kind ∷ after_kind) c.port s.port_is,
      kind_again s.typ s.kind after_kind c.kind s.typ_is s.kind_is,
      optional_again (codes "raddr") place_of wanted.RelatedAddress s.related_address after_port c.related_address (address_optional c.related_address s.related_address s.related_address_is) (port_not_raddr s.related_port c.related_port c.extensions s.related_port_is s.extensions_are),
      optional_again (codes "rport") port_of wanted.RelatedPort s.related_port exts c.related_port (port_optional c.related_port s.related_port s.related_port_is) (no_rport c.extensions s.extensions_are),
      extensions_again c.extensions s.extensions_are,
    ) refl

-- ---- One step of a chain, with what it gives as variables

with_field : {A : Type 0} (of : List ℕ → Option A) (what : Wanted) → of [] ≡ None → (f : A × List (List ℕ) → Result Fields Stop) (left : List (List ℕ)) (c : Fields) → (field of what left >>= f) ≡ Ok c → (P : Type 0)
    → ((w : List ℕ) (v : A) (rest : List (List ℕ)) → left ≡ w ∷ rest → of w ≡ Some v → f (v, rest) ≡ Ok c → P) → P
with_field of what none f left c e P then =
    let (x, read, later) = bind_ok (field of what left) f c e in
    let (w, split, is) = field_takes of what left x none read in
    then w x.0 x.1 split is later

with_kind : (f : Kind × List (List ℕ) → Result Fields Stop) (left : List (List ℕ)) (c : Fields) → (kind_at left >>= f) ≡ Ok c → (P : Type 0)
    → ((typ w : List ℕ) (v : Kind) (rest : List (List ℕ)) → left ≡ typ ∷ w ∷ rest → is_word (codes "typ") typ ≡ true → kind_of w ≡ Some v → f (v, rest) ≡ Ok c → P) → P
with_kind f left c e P then =
    let (x, read, later) = bind_ok (kind_at left) f c e in
    let (typ, w, split, typ_is, is) = kind_takes left x read in
    then typ w x.0 x.1 split typ_is is later

with_optional : {A : Type 0} (quoted : List ℕ) (of : List ℕ → Option A) (what : Wanted) → of [] ≡ None → is_word quoted [] ≡ false → (f : Option A × List (List ℕ) → Result Fields Stop) (left : List (List ℕ)) (c : Fields)
    → (optional_at quoted of what left >>= f) ≡ Ok c → (P : Type 0)
    → ((front : List (List ℕ)) (v : Option A) (rest : List (List ℕ)) → left ≡ front ++ rest → IsOptional quoted of front v → f (v, rest) ≡ Ok c → P) → P
with_optional quoted of what none unlike f left c e P then =
    let (x, read, later) = bind_ok (optional_at quoted of what left) f c e in
    let (front, split, is) = optional_takes quoted of what left x none unlike read in
    then front x.0 x.1 split is later

with_extensions : (mk : List (List ℕ × List ℕ) → Fields) (left : List (List ℕ)) (c : Fields) → (extensions_at left >>= λ x. Ok (mk x)) ≡ Ok c → (P : Type 0)
    → ((v : List (List ℕ × List ℕ)) → left ≡ extension_words v → AllByRecursion IsExtension v → mk v ≡ c → P) → P
with_extensions mk left c e P then =
    let (x, read, later) = bind_ok (extensions_at left) (λ x. Ok (mk x)) c e in
    let parts = or_fault_ok (extensions_fault left) (pairs_of left) x read in
    let pairs = exts_take left parts.0 in
    then x (pairs.0 ∙ ap extension_words parts.1) (subst (AllByRecursion IsExtension) parts.1 pairs.1) (ok_is (mk x) c later)

pub read_spelled : (ws : List (List ℕ)) (c : Fields) → candidate_at ws ≡ Ok c → IsSpelled ws c
unfolding candidate_at
read_spelled ws c e =
    with_field foundation_of wanted.Foundation refl (λ x0. field component_of wanted.Component x0.1 >>= λ x1. field protocol_of wanted.Transport x1.1 >>= λ x2. field priority_of wanted.Priority x2.1 >>= λ x3. field place_of wanted.Address x3.1 >>= λ x4. field port_of wanted.Port x4.1 >>= λ x5. kind_at x5.1 >>= λ x6. related_address_at x6.1 >>= λ x7. related_port_at x7.1 >>= λ x8. extensions_at x8.1 >>= λ x9. Ok (record { foundation = x0.0; component = x1.0; protocol = x2.0; priority = x3.0; address = x4.0; port = x5.0; kind = x6.0; related_address = x7.0; related_port = x8.0; extensions = x9 })) ws c e (IsSpelled ws c) λ w0 v0 r0 e0 i0 h0.
    with_field component_of wanted.Component refl (λ x1. field protocol_of wanted.Transport x1.1 >>= λ x2. field priority_of wanted.Priority x2.1 >>= λ x3. field place_of wanted.Address x3.1 >>= λ x4. field port_of wanted.Port x4.1 >>= λ x5. kind_at x5.1 >>= λ x6. related_address_at x6.1 >>= λ x7. related_port_at x7.1 >>= λ x8. extensions_at x8.1 >>= λ x9. Ok (record { foundation = v0; component = x1.0; protocol = x2.0; priority = x3.0; address = x4.0; port = x5.0; kind = x6.0; related_address = x7.0; related_port = x8.0; extensions = x9 })) r0 c h0 (IsSpelled ws c) λ w1 v1 r1 e1 i1 h1.
    with_field protocol_of wanted.Transport refl (λ x2. field priority_of wanted.Priority x2.1 >>= λ x3. field place_of wanted.Address x3.1 >>= λ x4. field port_of wanted.Port x4.1 >>= λ x5. kind_at x5.1 >>= λ x6. related_address_at x6.1 >>= λ x7. related_port_at x7.1 >>= λ x8. extensions_at x8.1 >>= λ x9. Ok (record { foundation = v0; component = v1; protocol = x2.0; priority = x3.0; address = x4.0; port = x5.0; kind = x6.0; related_address = x7.0; related_port = x8.0; extensions = x9 })) r1 c h1 (IsSpelled ws c) λ w2 v2 r2 e2 i2 h2.
    with_field priority_of wanted.Priority refl (λ x3. field place_of wanted.Address x3.1 >>= λ x4. field port_of wanted.Port x4.1 >>= λ x5. kind_at x5.1 >>= λ x6. related_address_at x6.1 >>= λ x7. related_port_at x7.1 >>= λ x8. extensions_at x8.1 >>= λ x9. Ok (record { foundation = v0; component = v1; protocol = v2; priority = x3.0; address = x4.0; port = x5.0; kind = x6.0; related_address = x7.0; related_port = x8.0; extensions = x9 })) r2 c h2 (IsSpelled ws c) λ w3 v3 r3 e3 i3 h3.
    with_field place_of wanted.Address no_place (λ x4. field port_of wanted.Port x4.1 >>= λ x5. kind_at x5.1 >>= λ x6. related_address_at x6.1 >>= λ x7. related_port_at x7.1 >>= λ x8. extensions_at x8.1 >>= λ x9. Ok (record { foundation = v0; component = v1; protocol = v2; priority = v3; address = x4.0; port = x5.0; kind = x6.0; related_address = x7.0; related_port = x8.0; extensions = x9 })) r3 c h3 (IsSpelled ws c) λ w4 v4 r4 e4 i4 h4.
    with_field port_of wanted.Port refl (λ x5. kind_at x5.1 >>= λ x6. related_address_at x6.1 >>= λ x7. related_port_at x7.1 >>= λ x8. extensions_at x8.1 >>= λ x9. Ok (record { foundation = v0; component = v1; protocol = v2; priority = v3; address = v4; port = x5.0; kind = x6.0; related_address = x7.0; related_port = x8.0; extensions = x9 })) r4 c h4 (IsSpelled ws c) λ w5 v5 r5 e5 i5 h5.
    with_kind (λ x6. related_address_at x6.1 >>= λ x7. related_port_at x7.1 >>= λ x8. extensions_at x8.1 >>= λ x9. Ok (record { foundation = v0; component = v1; protocol = v2; priority = v3; address = v4; port = v5; kind = x6.0; related_address = x7.0; related_port = x8.0; extensions = x9 })) r5 c h5 (IsSpelled ws c) λ t6 w6 v6 r6 e6 j6 i6 h6.
    with_optional (codes "raddr") place_of wanted.RelatedAddress no_place refl (λ x7. related_port_at x7.1 >>= λ x8. extensions_at x8.1 >>= λ x9. Ok (record { foundation = v0; component = v1; protocol = v2; priority = v3; address = v4; port = v5; kind = v6; related_address = x7.0; related_port = x8.0; extensions = x9 })) r6 c h6 (IsSpelled ws c) λ w7 v7 r7 e7 i7 h7.
    with_optional (codes "rport") port_of wanted.RelatedPort refl refl (λ x8. extensions_at x8.1 >>= λ x9. Ok (record { foundation = v0; component = v1; protocol = v2; priority = v3; address = v4; port = v5; kind = v6; related_address = v7; related_port = x8.0; extensions = x9 })) r7 c h7 (IsSpelled ws c) λ w8 v8 r8 e8 i8 h8.
    with_extensions (λ x9. record { foundation = v0; component = v1; protocol = v2; priority = v3; address = v4; port = v5; kind = v6; related_address = v7; related_port = v8; extensions = x9 }) r8 c h8 (IsSpelled ws c) λ v9 e9 i9 h9.
    let spelled : ws ≡ w0 ∷ w1 ∷ w2 ∷ w3 ∷ w4 ∷ w5 ∷ t6 ∷ w6 ∷ w7 ++ (w8 ++ extension_words v9) =
    e0 ∙ ap (λ (l : List (List ℕ)). w0 ∷ l) (e1 ∙ ap (λ (l : List (List ℕ)). w1 ∷ l) (e2 ∙ ap (λ (l : List (List ℕ)). w2 ∷ l) (e3 ∙ ap (λ (l : List (List ℕ)). w3 ∷ l)
    (e4 ∙ ap (λ (l : List (List ℕ)). w4 ∷ l) (e5 ∙ ap (λ (l : List (List ℕ)). w5 ∷ l) (e6 ∙ ap (λ (l : List (List ℕ)). t6 ∷ w6 ∷ l)
    (e7 ∙ ap (λ (l : List (List ℕ)). w7 ++ l) (e8 ∙ ap (λ (l : List (List ℕ)). w8 ++ l) e9)))))))) in
    subst (IsSpelled ws) h9 (record {
      foundation = w0;
      component = w1;
      protocol = w2;
      priority = w3;
      address = w4;
      port = w5;
      typ = t6;
      kind = w6;
      related_address = w7;
      related_port = w8;
      spelled = spelled;
      foundation_is = i0;
      component_is = i1;
      protocol_is = i2;
      priority_is = i3;
      address_is = i4;
      port_is = i5;
      typ_is = j6;
      kind_is = i6;
      related_address_is = related_address_is v7 w7 i7;
      related_port_is = related_port_is v8 w8 i8;
      extensions_are = i9;
    })
