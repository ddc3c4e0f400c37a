-- A body that is taken by its size.
use Rattle.std.proofs.Common.{◌≡◌, ℕ, ◌+◌, ◌-◌, ◌<◌, ◌≤◌, min, List, [], ◌++◌, length, take, drop, sym, ap, ◌∙◌, arith, length-append, length-drop, take-append-drop, ⊎_elim}
use Rattle.std.specs.Prelude.{Option}
use Rattle.std.proofs.lemmas.Bool.{cases_lt}
use Rattle.std.proofs.lemmas.List.{append-nil, drop-drop, drop_all, length-take, nil_from_length, take_all}
use Rattle.tab_http.specs.Reading.{TookBody}
use Rattle.tab_outside.specs.Transfers.{Moved}

-- the first bytes of a body, and the rest of it where these are not all
pub body_taken : (old new : Option (List ℕ)) (bytes first body after : List ℕ) (start size part : ℕ) → part ≡ min size (length bytes - start) → first ≡ take part (drop start bytes)
    → Moved old new first body → length body ≡ length first + (size - length first) → after ≡ drop (start + part) bytes → TookBody old new (drop start bytes) after size body
body_taken old new bytes first body after start size part least is moved full rest = record {
  came = moved.bytes;
  consumed = moved.consumed;
  whole = ⊎_elim missing all_there (cases_lt (length there) size);
  exact = omega (arith, full, first_size, least);
  missing = λ some. ⊎_elim (λ fewer. nothing fewer) (λ enough. absurd (omega (arith, some, came_size, first_size, there_size, least, enough))) (cases_lt (length there) size);
}
  where
    there : List ℕ
    there = drop start bytes

    there_size : length there ≡ length bytes - start
    there_size = length-drop start bytes

    first_size : length first ≡ part
    first_size = omega (arith, ap length is, length-take part there, there_size, least)

    came_size : length first + length moved.bytes ≡ length body
    came_size = sym (ap length moved.behind ∙ length-append first moved.bytes)

    behind : after ≡ drop part there
    behind = rest ∙ sym (drop-drop part start bytes)

    nothing : length there < size → after ≡ []
    nothing fewer = behind ∙ drop_all part there (omega (arith, there_size, least, fewer))

    missing : length there < size → there ++ moved.bytes ≡ body ++ after
    missing fewer =
        let whole : first ≡ there = is ∙ take_all part there (omega (arith, there_size, least, fewer)) in
        ap (λ (xs : List ℕ). xs ++ moved.bytes) (sym whole) ∙ sym moved.behind ∙ sym (append-nil body) ∙ ap (λ (xs : List ℕ). body ++ xs) (sym (nothing fewer))

    all_there : size ≤ length there → there ++ moved.bytes ≡ body ++ after
    all_there enough =
        let none : moved.bytes ≡ [] = nil_from_length moved.bytes (omega (arith, came_size, full, first_size, there_size, least, enough)) in
        let same : body ≡ first = moved.behind ∙ ap (λ (xs : List ℕ). first ++ xs) none ∙ append-nil first in
        ap (λ (xs : List ℕ). there ++ xs) none ∙ append-nil there ∙ sym (take-append-drop part there) ∙ ap (λ (xs : List ℕ). xs ++ drop part there) (sym is ∙ sym same) ∙ ap (λ (xs : List ℕ). body ++ xs) (sym behind)
