-- How causes go on from call to call.
use Rattle.std.proofs.Common.{◌≡◌, ℕ, ◌≤◌, Result, Err, ap, arith}
use Rattle.std.specs.Prelude.{IsErrOf}
use Rattle.tab_outside.specs.Faults.{Rose}
use Rattle.tab_journal.specs.declared.refusals.StoreRefused.{StoreRefused}

abbrev refused_so : {T : Type 0} → StoreRefused → Result T StoreRefused
refused_so refused = Err refused

pub same_refusal : {T : Type 0} (a b : StoreRefused) → refused_so {T = T} a ≡ refused_so {T = T} b → a ≡ b
same_refusal a b e = cc

-- a count that rose in a later call rose in both
pub rose_before : (before mid now : ℕ) → before ≤ mid → Rose mid now → Rose before now
rose_before before mid now later rose = omega (arith, later, rose)

pub rose_after : (before mid now : ℕ) → mid ≤ now → Rose before mid → Rose before now
rose_after before mid now later rose = omega (arith, later, rose)

abbrev refused_for : {T E : Type 0} → E → Result T E
refused_for x = Err x

pub is_err_of : {T E : Type 0} (x y : E) → x ≡ y → IsErrOf {T = T} {E = E} (Err x) y
is_err_of {T = T} {E = E} x y e = ap (refused_for {T = T}) e
