-- A request is taken exactly where it is signed as it must be.
use Rattle.std.proofs.Common.{◌≡◌, ◌↔◌, ◌⊎◌, ℕ, ◌+◌, List, [], ◌∷◌, ◌++◌, length, drop, Bool, true, false, ◌==◌, Option, Some, None, codes, bytes_eq, pos, ◌+ℤ◌, ◌≤ℤ◌, ◌<ℤ◌, ℤ, if◌then◌else◌, int_lt, not, T, refl, sym, ap, subst, ◌∙◌, inl, inr, arith, append_assoc}
use Rattle.std.proofs.lemmas.List.{take_at, drop_at, drop-drop}
use Rattle.std.proofs.lemmas.Bool.{eqb-true, and_parts}
use Rattle.std.proofs.lemmas.Bool.Decides.{Decides-eqb}
use Rattle.std.proofs.lemmas.Int.{ints}
use Rattle.std.specs.Int.Signed.{lt_z_yes, lt_z_no}
use Rattle.std.specs.Cmp.Lexicographic.{same_text}
use Rattle.std.proofs.lemmas.Slice.Eq.{bytes_eq-Decides, starts_is}
use Rattle.std.specs.List.{list_any, starts_with, before_first, after_first}
use Rattle.std.specs.Option.{option_or, option_and_then}
use Rattle.httpdate.specs.Date.{parse_secs}
use Rattle.tab_auth.specs.Signatures.{signature, resource_of}
use Rattle.tab_auth.specs.Checks.{Claim, claim_of, credentials_of, names_account, ends_segment, is_known, unix_second, date_refusal, signature_refusal, dated_refusal, claim_refusal, account_refusal}
use Rattle.tab_auth.specs.SignedRequests.{IsSigned}
use Rattle.tab_auth.specs.declared.checks.Signed.{Signed}
use Rattle.tab_auth.specs.declared.checks.AuthRefused.{AuthRefused}
use Rattle.tab_auth.proofs.Colons.{cut, has_colon, length_before}
use Rattle.tab_auth.proofs.Fronts.{named, after_scheme}

-- the tests that a choice between refusals passed
passed : (test : Bool) (why : AuthRefused) (rest : Option AuthRefused) → (if test then rest else Some why) ≡ None → (test ≡ true) × (rest ≡ None)
passed true why rest e = (refl, e)
passed false why rest e = cc

not_refused : (test : Bool) (why : AuthRefused) (rest : Option AuthRefused) → (if test then Some why else rest) ≡ None → (test ≡ false) × (rest ≡ None)
not_refused true why rest e = cc
not_refused false why rest e = (refl, e)

neither : (a b : Option AuthRefused) → option_or a b ≡ None → (a ≡ None) × (b ≡ None)
neither None b e = (refl, e)
neither (Some why) b e = cc

passed_last : (test : Bool) (why : AuthRefused) → (if test then None else Some why) ≡ None → test ≡ true
passed_last true why e = refl
passed_last false why e = cc

same_bytes : (bytes : List ℕ) → bytes_eq bytes bytes ≡ true
same_bytes bytes = (bytes_eq-Decides bytes bytes).1 refl

-- credentials are cut at their first colon
spelled_by : (test : Bool) (text : List ℕ) (claim : Claim) → list_any (λ byte. byte == 58) text ≡ test → (if test then Some (record { account = before_first (λ byte. byte == 58) text; signature = after_first (λ byte. byte == 58) text }) else None) ≡ Some claim → (text ≡ claim.account ++ (58 ∷ claim.signature)) × (list_any (λ byte. byte == 58) claim.account ≡ false)
spelled_by true text claim any e =
    let parts = cut text any in
    let made : Claim = record { account = before_first (λ byte. byte == 58) text; signature = after_first (λ byte. byte == 58) text } in
    let same : made ≡ claim = (cc) in
    subst (λ (c : Claim). (text ≡ c.account ++ (58 ∷ c.signature)) × (list_any (λ byte. byte == 58) c.account ≡ false)) same (parts.text_is, parts.no_colon)
spelled_by false text claim any e = cc

credentials : (account claimed : List ℕ) → list_any (λ byte. byte == 58) account ≡ false → credentials_of (account ++ (58 ∷ claimed)) ≡ Some (record { account = account; signature = claimed })
credentials account claimed none =
    let behind : drop (length account + 1) (account ++ (58 ∷ claimed)) ≡ claimed = sym (drop-drop 1 (length account) (account ++ (58 ∷ claimed))) ∙ ap (drop 1) (drop_at account (58 ∷ claimed) (length account) refl) in
    rw (has_colon account claimed, length_before account claimed none, take_at account (58 ∷ claimed) (length account) refl, behind) refl

-- a claim is what its header spells
spelled_claim_by : (test : Bool) (text : List ℕ) (claim : Claim) → starts_with ◌==◌ text (codes "SharedKeyLite ") ≡ test → (if test then credentials_of (drop 14 text) else None) ≡ Some claim → (text ≡ codes "SharedKeyLite " ++ (claim.account ++ (58 ∷ claim.signature))) × (list_any (λ byte. byte == 58) claim.account ≡ false)
spelled_claim_by true text claim is e =
    let front : text ≡ codes "SharedKeyLite " ++ drop 14 text = (starts_is Decides-eqb text (codes "SharedKeyLite ") _ refl).0 is in
    let parts = spelled_by _ (drop 14 text) claim refl e in
    (front ∙ ap (λ (rest : List ℕ). codes "SharedKeyLite " ++ rest) parts.0, parts.1)
spelled_claim_by false text claim is e = cc

spelled_claim : (text : List ℕ) (claim : Claim) → claim_of text ≡ Some claim → (text ≡ codes "SharedKeyLite " ++ (claim.account ++ (58 ∷ claim.signature))) × (list_any (λ byte. byte == 58) claim.account ≡ false)
unfolding claim_of
spelled_claim text claim e = spelled_claim_by _ text claim refl e

-- the header of an account and a signature
header : (account claimed : List ℕ) → codes "SharedKeyLite " ++ account ++ codes ":" ++ claimed ≡ codes "SharedKeyLite " ++ (account ++ (58 ∷ claimed))
header account claimed =
    ap (λ (rest : List ℕ). codes "SharedKeyLite " ++ rest) (append_assoc account (codes ":") claimed)

segment_end : (rest : List ℕ) → ends_segment rest ≡ true → (rest ≡ []) ⊎ ((more : List ℕ) × (rest ≡ codes "/" ++ more))
segment_end [] e = inl refl
segment_end (byte ∷ rest) e = inr (rest, ap (λ (b : ℕ). b ∷ rest) (eqb-true byte 47 e))

ends_there : (rest : List ℕ) → (rest ≡ []) ⊎ ((more : List ℕ) × (rest ≡ codes "/" ++ more)) → ends_segment rest ≡ true
ends_there rest (inl e) = ap ends_segment e
ends_there rest (inr h) = ap ends_segment h.1

found_account : (account path : List ℕ) → names_account account path ≡ true → (rest : List ℕ) × (path ≡ codes "/" ++ account ++ rest) × ((rest ≡ []) ⊎ ((more : List ℕ) × (rest ≡ codes "/" ++ more)))
unfolding names_account
found_account account path e =
    let h = and_parts _ _ e in
    (drop (length (codes "/" ++ account)) path, (starts_is Decides-eqb path (codes "/" ++ account) _ refl).0 h.0, segment_end _ h.1)

not_below : (a b : ℤ) → int_lt a b ≡ false → b ≤ℤ a
not_below a b e = lt_z_no (subst (λ (test : Bool). T (not test)) (sym e) tt)

below_by : (test : Bool) (a b : ℤ) → int_lt a b ≡ test → b ≤ℤ a → test ≡ false
below_by true a b e h =
    let below : a <ℤ b = lt_z_yes (subst T (sym e) tt) in
    absurd (omega (arith, ints))
below_by false a b e h = refl

below_not : (a b : ℤ) → b ≤ℤ a → int_lt a b ≡ false
below_not a b h = below_by (int_lt a b) a b refl h

taken_text : (authorization : Option (List ℕ)) (claim : Claim) → option_and_then claim_of authorization ≡ Some claim → (text : List ℕ) × (authorization ≡ Some text) × (claim_of text ≡ Some claim)
taken_text None claim e = cc
taken_text (Some text) claim e = (text, refl, e)

taken_claim : (account key : List ℕ) (signed : Signed) (now : ℕ) (claim : Option Claim) → claim_refusal account key signed now claim ≡ None → (c : Claim) × (claim ≡ Some c) × (is_known account c.account signed.path ≡ true) × (dated_refusal account key signed now c.signature signed.date ≡ None)
taken_claim account key signed now None e = cc
taken_claim account key signed now (Some c) e = let h = passed _ _ _ e in (c, refl, h.0, h.1)

taken_date : (account key : List ℕ) (signed : Signed) (now : ℕ) (claimed : List ℕ) (date : Option (List ℕ)) → dated_refusal account key signed now claimed date ≡ None → (d : List ℕ) × (date ≡ Some d) × (date_refusal now (parse_secs d) ≡ None) × (signature_refusal claimed (signature key d (resource_of account signed.path signed.comp)) ≡ None)
taken_date account key signed now claimed None e = cc
taken_date account key signed now claimed (Some d) e = let h = neither _ _ e in (d, refl, h.0, h.1)

taken_second : (now : ℕ) (second : Option ℕ) → date_refusal now second ≡ None → (n : ℕ) × (second ≡ Some n) × (unix_second now ≤ℤ (pos n +ℤ pos 900)) × (pos n ≤ℤ (unix_second now +ℤ pos 900))
taken_second now None e = cc
taken_second now (Some n) e =
    let old = not_refused _ _ _ e in
    let early = not_refused _ _ _ old.1 in
    (n, refl, not_below _ _ old.0, not_below _ _ early.0)

-- what a taken request is
taken : (account key : List ℕ) (signed : Signed) (now : ℕ) → account_refusal account (Some key) signed now ≡ None → IsSigned account key signed now
taken account key signed now e =
    let c = taken_claim account key signed now (option_and_then claim_of signed.authorization) e in
    let a = taken_text signed.authorization c.0 c.1 in
    let spelled = spelled_claim a.0 c.0 a.2 in
    let known = and_parts _ _ c.2 in
    let path = found_account account signed.path known.1 in
    let d = taken_date account key signed now c.0.signature signed.date c.3 in
    let s = taken_second now (parse_secs d.0) d.2 in
    let account_is : c.0.account ≡ account = same_text _ _ (sym known.0) in
    let signature_is : c.0.signature ≡ signature key d.0 (resource_of account signed.path signed.comp) = same_text _ _ (sym (passed_last _ _ d.3)) in
    record {
      date = d.0;
      second = s.0;
      rest = path.0;
      authorization_is = a.1 ∙ ap Some (spelled.0 ∙ ap (λ (rest : List ℕ). codes "SharedKeyLite " ++ rest) (ap (λ (name : List ℕ). name ++ (58 ∷ c.0.signature)) account_is ∙ ap (λ (claimed : List ℕ). account ++ (58 ∷ claimed)) signature_is) ∙ sym (header account _));
      without_colon = rw (sym account_is) spelled.1;
      path_is = path.1;
      rest_is = path.2;
      date_is = d.1;
      second_is = s.1;
      not_old = s.2;
      not_early = s.3;
    }

takes_date : (account key : List ℕ) (signed : Signed) (now : ℕ) (d : List ℕ) (n : ℕ) (date : Option (List ℕ)) → date ≡ Some d → parse_secs d ≡ Some n → unix_second now ≤ℤ (pos n +ℤ pos 900) → pos n ≤ℤ (unix_second now +ℤ pos 900) → dated_refusal account key signed now (signature key d (resource_of account signed.path signed.comp)) date ≡ None
takes_date account key signed now d n date date_is second_is old early =
    rw (date_is, second_is, below_not _ _ old, below_not _ _ early, same_bytes (signature key d (resource_of account signed.path signed.comp))) refl

-- what is signed as it must be is taken
takes : (account key : List ℕ) (signed : Signed) (now : ℕ) → IsSigned account key signed now → account_refusal account (Some key) signed now ≡ None
takes account key signed now s =
    let claimed = signature key s.date (resource_of account signed.path signed.comp) in
    let text = codes "SharedKeyLite " ++ account ++ codes ":" ++ claimed in
    let claim : Claim = record { account = account; signature = claimed } in
    let read : claim_of text ≡ Some claim = after_scheme text _ (header account claimed) ∙ credentials account claimed s.without_colon in
    let claim_is : option_and_then claim_of signed.authorization ≡ Some claim = ap (option_and_then claim_of) s.authorization_is ∙ read in
    let named_so : names_account account signed.path ≡ true = named account signed.path s.rest s.path_is ∙ ends_there s.rest s.rest_is in
    ap (claim_refusal account key signed now) claim_is ∙ rw (same_bytes account, named_so) (takes_date account key signed now s.date s.second signed.date s.date_is s.second_is s.not_old s.not_early)

pub taken_exactly : (account key : List ℕ) (signed : Signed) (now : ℕ) → (account_refusal account (Some key) signed now ≡ None) ↔ IsSigned account key signed now
taken_exactly account key signed now = (taken account key signed now, takes account key signed now)
