-- Which of the grammar's own characters are those of names.
use Rattle.std.proofs.Common.{◌≡◌, ℕ, ◌<◌, Bool, true, false, ◌||◌, ◌==◌, ap, lit<}
use Rattle.std.specs.Char.{is_ascii_alphabetic, is_ascii_alphanumeric}
use Rattle.unicode_ident.proofs.IdentLemmas.{is_xid_start-ascii, is_xid_continue-ascii}
use Rattle.tab_filter.specs.Lexer.{begins, continues}

begins_ascii : (c : ℕ) → c < 128 → begins c ≡ (is_ascii_alphabetic c || c == 95)
unfolding begins
begins_ascii c h = ap (λ (b : Bool). b || c == 95) (is_xid_start-ascii c h)

continues_ascii : (c : ℕ) → c < 128 → continues c ≡ (is_ascii_alphanumeric c || c == 95)
unfolding continues
continues_ascii c h = is_xid_continue-ascii c h

pub begins-space : begins 32 ≡ false
begins-space = begins_ascii 32 (lit< tt)

pub begins-opening : begins 40 ≡ false
begins-opening = begins_ascii 40 (lit< tt)

pub begins-closing : begins 41 ≡ false
begins-closing = begins_ascii 41 (lit< tt)

pub continues-space : continues 32 ≡ false
continues-space = continues_ascii 32 (lit< tt)

pub continues-opening : continues 40 ≡ false
continues-opening = continues_ascii 40 (lit< tt)

pub continues-closing : continues 41 ≡ false
continues-closing = continues_ascii 41 (lit< tt)

pub begins-e : begins 101 ≡ true
begins-e = begins_ascii 101 (lit< tt)

pub begins-g : begins 103 ≡ true
begins-g = begins_ascii 103 (lit< tt)

pub begins-l : begins 108 ≡ true
begins-l = begins_ascii 108 (lit< tt)

pub begins-n : begins 110 ≡ true
begins-n = begins_ascii 110 (lit< tt)

pub continues-e : continues 101 ≡ true
continues-e = continues_ascii 101 (lit< tt)

pub continues-o : continues 111 ≡ true
continues-o = continues_ascii 111 (lit< tt)

pub continues-q : continues 113 ≡ true
continues-q = continues_ascii 113 (lit< tt)

pub continues-t : continues 116 ≡ true
continues-t = continues_ascii 116 (lit< tt)
