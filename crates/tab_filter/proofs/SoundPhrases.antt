-- What the readers of joined parts and of filters say of the text that they read.
use Rattle.std.proofs.Common.{◌≡◌, inl, ℕ, zero, suc, ◌+◌, List, [], ◌∷◌, ◌++◌, Bool, true, false, Ok, refl, ap, sym, subst, ◌∙◌, arith, append-nil, pos}
use Rattle.tab_edm.specs.declared.values.Value.TheVariants.{Int32}
use Rattle.tab_filter.specs.declared.trees.Operator.TheVariants.{Equal}
use Rattle.tab_filter.specs.declared.lexer.Joint.{Joint}
use Rattle.tab_filter.specs.declared.lexer.Joint.TheVariants.{And, Or, Neither}
use Rattle.tab_filter.specs.Trees.{Tree, Both, Either}
use Rattle.tab_keys.specs.Results.{◌>>=◌}
use Rattle.tab_filter.specs.Lexer.{Read, starts, after_spaces, expect, edge_at, joint_at}
use Rattle.tab_filter.specs.Parser.{PartView, AllView, AnyView, compared, part_at, all_more, all_at, any_more, any_at, closed_group, inner_at}
use Rattle.tab_filter.specs.Grammar.{Phrase, Comparing, Group, Negated, Joined, Parted, blank, text_of, tree_at, opens, closes, comparisons, unary, conjunction, disjunction, Fits, IsGap}
use Rattle.tab_filter.proofs.Phrases.{blank_append, text_append, text_begins}
use Rattle.tab_filter.proofs.Complete.{neither_no_and, or_no_and}
use Rattle.tab_filter.proofs.Sound.{Meaning, Sound, sound_after, sound_bind, sound_map, spaces, blank_into, IsEdge, sound_edge}
use Rattle.tab_filter.proofs.SoundLexer.{Is, expect_sound, some_name, TailText, Tail, joint_sound}
use Rattle.tab_filter.proofs.SoundParser.{Few, Deeply, PartText, Behind, InnerSound, part_sound, some_part, text_some, gap_for, negation_sound, closed_sound}

-- ---- parts joined by `and`, with the word behind them
pub record AllText (most depth used : ℕ) (k : Bool) (v : AllView) (s : List ℕ) : Type 0 where
  pub phrase : Phrase
  pub fits : Fits conjunction phrase
  pub tree_is : v.tree ≡ tree_at phrase
  pub used_is : v.used ≡ used + comparisons phrase
  pub few : Few k most v.used
  pub nests : Deeply k phrase depth
  pub tail : List ℕ
  pub tail_is : TailText (closes phrase) v.joint tail
  pub other : v.joint ≡ And → ⊥
  pub is : s ≡ text_of phrase tail

-- what may follow a part, and a part with the word behind it
abbrev AfterPart : ℕ → ℕ → ℕ → PartView → Meaning AllView
AfterPart most depth used a k v w = (s : List ℕ) → PartText most depth used k a s → AllText most depth used k v (s ++ w)

abbrev AfterJoint : ℕ → ℕ → ℕ → PartView → Joint → Meaning AllView
AfterJoint most depth used a joint k v w =
    (s t : List ℕ) → PartText most depth used k a s → TailText a.closed joint t → AllText most depth used k v (s ++ (t ++ w))

unary_all : (c : Phrase) → Fits unary c → Fits conjunction c
unary_all (Comparing name a o b value literal) f = f
unary_all (Group a inner b) f = f
unary_all (Negated a inner) f = f
unary_all (Joined first a b second) f = absurd f
unary_all (Parted first a b second) f = absurd f

all_any : (c : Phrase) → Fits conjunction c → Fits disjunction c
all_any (Comparing name a o b value literal) f = f
all_any (Group a inner b) f = f
all_any (Negated a inner) f = f
all_any (Joined first a b second) f = f
all_any (Parted first a b second) f = absurd f

abbrev alone : PartView → Joint → AllView
alone a joint = record { tree = a.tree; joint = joint; used = a.used }

one_all : (most depth used : ℕ) (a : PartView) (joint : Joint) (k : Bool) → (joint ≡ And → ⊥) → AfterJoint most depth used a joint k (alone a joint) []
one_all most depth used a joint k other s t p tail = record {
  phrase = p.phrase;
  fits = unary_all p.phrase p.fits;
  tree_is = p.tree_is;
  used_is = p.used_is;
  few = p.few;
  nests = p.nests;
  tail = t;
  tail_is = subst (λ (b : Bool). TailText b joint t) p.closed_is tail;
  other = other;
  is = ap (λ (l : List ℕ). s ++ l) (append-nil t) ∙ ap (λ (l : List ℕ). l ++ t) p.is ∙ sym (text_append p.phrase [] t);
}

deep_joined : (k : Bool) (first : Phrase) (a b : ℕ) (second : Phrase) (depth : ℕ) → Deeply k first depth → Deeply k second depth → Deeply k (Joined first a b second) depth
deep_joined true first a b second depth h i = (h, i)
deep_joined false first a b second depth h i = tt

deep_parted : (k : Bool) (first : Phrase) (a b : ℕ) (second : Phrase) (depth : ℕ) → Deeply k first depth → Deeply k second depth → Deeply k (Parted first a b second) depth
deep_parted true first a b second depth h i = (h, i)
deep_parted false first a b second depth h i = tt

-- the spaces behind a joint, and what they stand before
record EdgeText {A : Type 0} (G : Meaning A) (k : Bool) (v : A) (w : List ℕ) : Type 0 where
  count : ℕ
  inner : List ℕ
  edge : IsEdge count inner
  reads : G k v inner
  is : w ≡ blank count inner

abbrev both : PartView → AllView → AllView
both a m = record { tree = Both a.tree m.tree; joint = m.joint; used = m.used }

-- the texts of two parts with a word between them
between : (n : ℕ) (word x w : List ℕ) (m : ℕ) → x ≡ blank n word → x ++ blank m w ≡ blank n (word ++ blank m w)
between n word x w m e = ap (λ (l : List ℕ). l ++ blank m w) e ∙ sym (blank_append n word (blank m w))

joined_all : (most depth used : ℕ) (a : PartView) (k : Bool) (v : AllView) (w : List ℕ) → EdgeText (AllText most depth a.used) k v w → AfterJoint most depth used a And k (both a v) w
joined_all most depth used a k v w e s t p tail =
    let q = e.reads in
    let phrase : Phrase = Joined p.phrase tail.0 e.count q.phrase in
    record {
      phrase = phrase;
      fits = (subst (λ (b : Bool). IsGap b tail.0) p.closed_is tail.1, gap_for (opens q.phrase) e.count e.inner (ap (starts 40) q.is ∙ (text_begins conjunction q.phrase q.tail q.fits).opening) e.edge, p.fits, q.fits);
      tree_is = both_is p.tree_is q.tree_is;
      used_is = q.used_is ∙ ap (λ (n : ℕ). n + comparisons q.phrase) p.used_is ∙ add_up used (comparisons p.phrase) (comparisons q.phrase);
      few = q.few;
      nests = deep_joined k p.phrase tail.0 e.count q.phrase depth p.nests q.nests;
      tail = q.tail;
      tail_is = q.tail_is;
      other = q.other;
      is = ap (λ (l : List ℕ). s ++ (t ++ l)) (e.is ∙ ap (blank e.count) q.is) ∙ ap (λ (l : List ℕ). s ++ l) (between tail.0 (97 ∷ 110 ∷ 100 ∷ []) t (text_of q.phrase q.tail) e.count tail.2) ∙ ap (λ (l : List ℕ). l ++ blank tail.0 (97 ∷ 110 ∷ 100 ∷ blank e.count (text_of q.phrase q.tail))) p.is ∙ sym (text_append p.phrase [] (blank tail.0 (97 ∷ 110 ∷ 100 ∷ blank e.count (text_of q.phrase q.tail))));
    }
  where
    both_is : {x y z u : Tree} → x ≡ y → z ≡ u → Both x z ≡ Both y u
    both_is f g = λ i. Both (f i) (g i)

    add_up : (x y z : ℕ) → x + y + z ≡ x + (y + z)
    add_up x y z = omega arith

-- what may stand where parts are due: `e eq 0`
some_all : (most depth used : ℕ) → AllText most depth used false (alone (compared (101 ∷ []) Equal (Int32 (pos 0)) used) Neither) (101 ∷ 32 ∷ 101 ∷ 113 ∷ 32 ∷ 48 ∷ [])
some_all most depth used =
    one_all most depth used (compared (101 ∷ []) Equal (Int32 (pos 0)) used) Neither false neither_no_and (101 ∷ 32 ∷ 101 ∷ 113 ∷ 32 ∷ 48 ∷ []) [] (some_part most depth used (101 ∷ []) some_name) (0, refl)

abbrev pub PartsSound : ℕ → ℕ → (ℕ → List ℕ → Read PartView) → Type 0
PartsSound most depth part = (used : ℕ) (t : List ℕ) → Sound (PartText most depth used) t (part used t)

more_all : (most depth used : ℕ) (rest : ℕ → List ℕ → Read AllView) (a : PartView) (joint : Joint) (t : List ℕ) → ((used : ℕ) (t : List ℕ) → Sound (AllText most depth used) t (rest used t)) → Sound (AfterJoint most depth used a joint) t (all_more rest a joint t)
more_all most depth used rest a And t law =
    sound_map (EdgeText (AllText most depth a.used)) (AfterJoint most depth used a And) (both a) t (edge_at t >>= λ e. rest a.used e.1)
    (sound_edge (AllText most depth a.used) (EdgeText (AllText most depth a.used)) t (λ u. rest a.used u) (λ u. law a.used u) (λ k b h. text_some conjunction h.phrase h.tail h.fits (sym h.is))
    (alone (compared (101 ∷ []) Equal (Int32 (pos 0)) a.used) Neither) (101 ∷ 32 ∷ 101 ∷ 113 ∷ 32 ∷ 48 ∷ []) (some_all most depth a.used)
    (λ k m b s h edge. record { count = m; inner = s; edge = edge; reads = h; is = refl }))
    (λ k v w e. joined_all most depth used a k v w e)
more_all most depth used rest a Or t law = ([], one_all most depth used a Or true or_no_and, refl)
more_all most depth used rest a Neither t law = ([], one_all most depth used a Neither true neither_no_and, refl)

-- a joint, and what may follow it
fill_joint : (most depth used : ℕ) (a : PartView) (joint : Joint) → (v : AllView) × (w : List ℕ) × AfterJoint most depth used a joint false v w
fill_joint most depth used a And = (
  both a (alone (compared (101 ∷ []) Equal (Int32 (pos 0)) a.used) Neither),
  32 ∷ 101 ∷ 32 ∷ 101 ∷ 113 ∷ 32 ∷ 48 ∷ [],
  joined_all most depth used a false (alone (compared (101 ∷ []) Equal (Int32 (pos 0)) a.used) Neither) (32 ∷ 101 ∷ 32 ∷ 101 ∷ 113 ∷ 32 ∷ 48 ∷ []) (record { count = 1; inner = 101 ∷ 32 ∷ 101 ∷ 113 ∷ 32 ∷ 48 ∷ []; edge = inl (omega arith); reads = some_all most depth a.used; is = refl }),
)
fill_joint most depth used a Or = (alone a Or, [], one_all most depth used a Or false or_no_and)
fill_joint most depth used a Neither = (alone a Neither, [], one_all most depth used a Neither false neither_no_and)

part_loose : (most depth used : ℕ) (a : PartView) (s : List ℕ) → PartText most depth used true a s → PartText most depth used false a s
part_loose most depth used a s p =
    record { phrase = p.phrase; fits = p.fits; tree_is = p.tree_is; closed_is = p.closed_is; used_is = p.used_is; few = tt; nests = tt; is = p.is }

pub all_sound : (most depth : ℕ) (part : ℕ → List ℕ → Read PartView) → PartsSound most depth part → (n used : ℕ) (t : List ℕ) → Sound (AllText most depth used) t (all_at part n used t)
unfolding all_at
all_sound most depth part law zero used t = tt
all_sound most depth part law (suc n) used t =
    sound_bind (PartText most depth used) (λ a. AfterPart most depth used a) (AllText most depth used) t (part used t) (λ a. joint_at a.0.closed a.1 >>= λ k. all_more (all_at part n) a.0 k.0 k.1) (law used t)
    (λ x s g. sound_bind (Tail x.0.closed) (λ joint. AfterJoint most depth used x.0 joint) (AfterPart most depth used x.0) x.1 (joint_at x.0.closed x.1) (λ k. all_more (all_at part n) x.0 k.0 k.1) (joint_sound x.0.closed x.1)
    (λ y u h. more_all most depth used (all_at part n) x.0 y.0 y.1 (λ used t. all_sound most depth part law n used t))
    (λ joint u h. fill_joint most depth used x.0 joint)
    (λ joint u h. h)
    (λ k joint v u w h after s p. after s u p h))
    (λ a s g. (alone a Neither, [], λ s p. one_all most depth used a Neither false neither_no_and s [] p (0, refl)))
    (λ a s g. part_loose most depth used a s g)
    (λ k a v s w g after. after s g)

-- ---- parts joined by `or`
pub record AnyText (most depth used : ℕ) (k : Bool) (v : AnyView) (s : List ℕ) : Type 0 where
  pub phrase : Phrase
  pub fits : Fits disjunction phrase
  pub tree_is : v.tree ≡ tree_at phrase
  pub used_is : v.used ≡ used + comparisons phrase
  pub few : Few k most v.used
  pub nests : Deeply k phrase depth
  pub after : ℕ
  pub is : s ≡ text_of phrase (blank after [])

abbrev AfterAll : ℕ → ℕ → ℕ → AllView → Meaning AnyView
AfterAll most depth used a k v w = (s : List ℕ) → AllText most depth used k a s → AnyText most depth used k v (s ++ w)

abbrev alone_any : AllView → AnyView
alone_any a = record { tree = a.tree; used = a.used }

neither_tail : (closed : Bool) (joint : Joint) (t : List ℕ) → joint ≡ Neither → TailText closed joint t → (n : ℕ) × (t ≡ blank n [])
neither_tail closed joint t e tail = subst (λ (j : Joint). TailText closed j t) e tail

pub or_tail : (closed : Bool) (joint : Joint) (t : List ℕ) → joint ≡ Or → TailText closed joint t → (n : ℕ) × IsGap closed n × (t ≡ blank n (111 ∷ 114 ∷ []))
or_tail closed joint t e tail = subst (λ (j : Joint). TailText closed j t) e tail

one_any : (most depth used : ℕ) (a : AllView) (k : Bool) → a.joint ≡ Neither → AfterAll most depth used a k (alone_any a) []
one_any most depth used a k e s g =
    let n = neither_tail (closes g.phrase) a.joint g.tail e g.tail_is in
    record {
      phrase = g.phrase;
      fits = all_any g.phrase g.fits;
      tree_is = g.tree_is;
      used_is = g.used_is;
      few = g.few;
      nests = g.nests;
      after = n.0;
      is = append-nil s ∙ g.is ∙ ap (text_of g.phrase) n.1;
    }

abbrev either : AllView → AnyView → AnyView
either a m = record { tree = Either a.tree m.tree; used = m.used }

parted_any : (most depth used : ℕ) (a : AllView) (k : Bool) (v : AnyView) (w : List ℕ) → a.joint ≡ Or → EdgeText (AnyText most depth a.used) k v w → AfterAll most depth used a k (either a v) w
parted_any most depth used a k v w j e s g =
    let q = e.reads in
    let n = or_tail (closes g.phrase) a.joint g.tail j g.tail_is in
    let rest = text_of q.phrase (blank q.after []) in
    record {
      phrase = Parted g.phrase n.0 e.count q.phrase;
      fits = (n.1, gap_for (opens q.phrase) e.count e.inner (ap (starts 40) q.is ∙ (text_begins disjunction q.phrase (blank q.after []) q.fits).opening) e.edge, g.fits, q.fits);
      tree_is = either_is g.tree_is q.tree_is;
      used_is = q.used_is ∙ ap (λ (n : ℕ). n + comparisons q.phrase) g.used_is ∙ add_up used (comparisons g.phrase) (comparisons q.phrase);
      few = q.few;
      nests = deep_parted k g.phrase n.0 e.count q.phrase depth g.nests q.nests;
      after = q.after;
      is = ap (λ (l : List ℕ). s ++ l) (e.is ∙ ap (blank e.count) q.is) ∙ ap (λ (l : List ℕ). l ++ blank e.count rest) g.is ∙ sym (text_append g.phrase g.tail (blank e.count rest)) ∙ ap (text_of g.phrase) (between n.0 (111 ∷ 114 ∷ []) g.tail rest e.count n.2);
    }
  where
    either_is : {x y z u : Tree} → x ≡ y → z ≡ u → Either x z ≡ Either y u
    either_is f g = λ i. Either (f i) (g i)

    add_up : (x y z : ℕ) → x + y + z ≡ x + (y + z)
    add_up x y z = omega arith

some_any : (most depth used : ℕ) → AnyText most depth used false (alone_any (alone (compared (101 ∷ []) Equal (Int32 (pos 0)) used) Neither)) (101 ∷ 32 ∷ 101 ∷ 113 ∷ 32 ∷ 48 ∷ [])
some_any most depth used =
    one_any most depth used (alone (compared (101 ∷ []) Equal (Int32 (pos 0)) used) Neither) false refl (101 ∷ 32 ∷ 101 ∷ 113 ∷ 32 ∷ 48 ∷ []) (some_all most depth used)

more_any : (most depth used : ℕ) (rest : ℕ → List ℕ → Read AnyView) (a : AllView) (joint : Joint) (t : List ℕ) → a.joint ≡ joint → (a.joint ≡ And → ⊥) → ((used : ℕ) (t : List ℕ) → Sound (AnyText most depth used) t (rest used t)) → Sound (AfterAll most depth used a) t (any_more rest a joint t)
more_any most depth used rest a Or t e other law =
    sound_map (EdgeText (AnyText most depth a.used)) (AfterAll most depth used a) (either a) t (edge_at t >>= λ e. rest a.used e.1)
    (sound_edge (AnyText most depth a.used) (EdgeText (AnyText most depth a.used)) t (λ u. rest a.used u) (λ u. law a.used u) (λ k b h. text_some disjunction h.phrase (blank h.after []) h.fits (sym h.is))
    (alone_any (alone (compared (101 ∷ []) Equal (Int32 (pos 0)) a.used) Neither)) (101 ∷ 32 ∷ 101 ∷ 113 ∷ 32 ∷ 48 ∷ []) (some_any most depth a.used)
    (λ k m b s h edge. record { count = m; inner = s; edge = edge; reads = h; is = refl }))
    (λ k v w h. parted_any most depth used a k v w e h)
more_any most depth used rest a And t e other law = absurd (other e)
more_any most depth used rest a Neither t e other law = ([], one_any most depth used a true e, refl)

fill_any : (most depth used : ℕ) (a : AllView) (joint : Joint) → a.joint ≡ joint → (a.joint ≡ And → ⊥) → (v : AnyView) × (w : List ℕ) × AfterAll most depth used a false v w
fill_any most depth used a Or e other =
    let some = alone_any (alone (compared (101 ∷ []) Equal (Int32 (pos 0)) a.used) Neither) in (
      either a some,
      32 ∷ 101 ∷ 32 ∷ 101 ∷ 113 ∷ 32 ∷ 48 ∷ [],
      parted_any most depth used a false some (32 ∷ 101 ∷ 32 ∷ 101 ∷ 113 ∷ 32 ∷ 48 ∷ []) e (record { count = 1; inner = 101 ∷ 32 ∷ 101 ∷ 113 ∷ 32 ∷ 48 ∷ []; edge = inl (omega arith); reads = some_any most depth a.used; is = refl }),
    )
fill_any most depth used a And e other = absurd (other e)
fill_any most depth used a Neither e other = (alone_any a, [], one_any most depth used a false e)

all_loose : (most depth used : ℕ) (a : AllView) (s : List ℕ) → AllText most depth used true a s → AllText most depth used false a s
all_loose most depth used a s p =
    record { phrase = p.phrase; fits = p.fits; tree_is = p.tree_is; used_is = p.used_is; few = tt; nests = tt; tail = p.tail; tail_is = p.tail_is; other = p.other; is = p.is }

pub any_sound : (most depth : ℕ) (part : ℕ → List ℕ → Read PartView) → PartsSound most depth part → (parts n used : ℕ) (t : List ℕ) → Sound (AnyText most depth used) t (any_at part parts n used t)
unfolding any_at
any_sound most depth part law parts zero used t = tt
any_sound most depth part law parts (suc n) used t =
    sound_bind (AllText most depth used) (λ a. AfterAll most depth used a) (AnyText most depth used) t (all_at part parts used t) (λ a. any_more (any_at part parts n) a.0 a.0.joint a.1) (all_sound most depth part law parts used t)
    (λ x s g. more_any most depth used (any_at part parts n) x.0 x.0.joint x.1 refl g.other (λ used t. any_sound most depth part law parts n used t))
    (λ a s g. fill_any most depth used a a.joint refl g.other)
    (λ a s g. all_loose most depth used a s g)
    (λ k a v s w g after. after s g)

-- ---- groups
abbrev pub group_of : AnyView → PartView
group_of a = record { tree = a.tree; closed = true; used = a.used }

deep_group : (k : Bool) (a : ℕ) (inner : Phrase) (b : ℕ) (depth : ℕ) → Deeply k inner depth → Deeply k (Group a inner b) (suc depth)
deep_group true a inner b depth h = h
deep_group false a inner b depth h = tt

abbrev Closing : ℕ → ℕ → ℕ → ℕ → AnyView → Meaning PartView
Closing most depth used n a k v w = (s : List ℕ) → AnyText most depth used k a s → PartText most (suc depth) used k v (40 ∷ blank n (s ++ w))

close : (most depth used n : ℕ) (a : AnyView) (k : Bool) → Closing most depth used n a k (group_of a) (41 ∷ [])
close most depth used n a k s g = record {
  phrase = Group n g.phrase g.after;
  fits = g.fits;
  tree_is = g.tree_is;
  closed_is = refl;
  used_is = g.used_is;
  few = g.few;
  nests = deep_group k n g.phrase g.after depth g.nests;
  is = ap (λ (l : List ℕ). 40 ∷ blank n l) (ap (λ (l : List ℕ). l ++ 41 ∷ []) g.is ∙ sym (text_append g.phrase (blank g.after []) (41 ∷ [])) ∙ ap (text_of g.phrase) (blank_into g.after (41 ∷ [])));
}

any_loose : (most depth used : ℕ) (a : AnyView) (s : List ℕ) → AnyText most depth used true a s → AnyText most depth used false a s
any_loose most depth used a s p =
    record { phrase = p.phrase; fits = p.fits; tree_is = p.tree_is; used_is = p.used_is; few = tt; nests = tt; after = p.after; is = p.is }

abbrev InGroup : ℕ → ℕ → ℕ → ℕ → Meaning PartView
InGroup most depth used n k v s = PartText most (suc depth) used k v (40 ∷ blank n s)

group_sound : (most depth : ℕ) (part : ℕ → List ℕ → Read PartView) → PartsSound most depth part → (parts used : ℕ) (left : List ℕ) → Sound (Behind (40 ∷ []) (PartText most (suc depth) used)) left (closed_group (any_at part parts parts used (after_spaces left)))
group_sound most depth part law parts used left =
    let n = spaces left in
    let u = after_spaces left in
    sound_after (InGroup most depth used n.0) (Behind (40 ∷ []) (PartText most (suc depth) used)) left (blank n.0 []) u (closed_group (any_at part parts parts used u)) (n.1 ∙ sym (blank_into n.0 u))
    (λ k v w p. subst (λ (l : List ℕ). PartText most (suc depth) used k v (40 ∷ l)) (sym (blank_into n.0 w)) p)
    (sound_bind (AnyText most depth used) (λ a. Closing most depth used n.0 a) (InGroup most depth used n.0) u (any_at part parts parts used u) (λ m. expect 41 m.1 >>= λ e. Ok (group_of m.0, e.1)) (any_sound most depth part law parts parts used u)
    (λ x s g. sound_map (Is 41) (Closing most depth used n.0 x.0) (λ _. group_of x.0) x.1 (expect 41 x.1) (expect_sound 41 x.1) (λ k a w e s g. subst (λ (l : List ℕ). PartText most (suc depth) used k (group_of x.0) (40 ∷ blank n.0 (s ++ l))) (sym e) (close most depth used n.0 x.0 k s g)))
    (λ a s g. (group_of a, 41 ∷ [], close most depth used n.0 a false))
    (λ a s g. any_loose most depth used a s g)
    (λ k a v s w g closing. closing s g))

pub inner_sound : (most parts depth : ℕ) → InnerSound most depth (inner_at most parts depth)
unfolding inner_at
inner_sound most parts zero =
    closed_sound most (inner_at most parts zero) (λ used text left. tt) (λ used text left. refl)
inner_sound most parts (suc depth) = record {
  group = λ used text left. group_sound most depth (part_at most (inner_at most parts depth)) (part_sound most depth (inner_at most parts depth) (inner_sound most parts depth)) parts used left;
  negation = λ used text left. negation_sound most depth (inner_at most parts depth) (inner_sound most parts depth) used left;
}

pub filter_parts_sound : (most parts depth used : ℕ) (t : List ℕ) → Sound (AnyText most depth used) t (any_at (part_at most (inner_at most parts depth)) parts parts used t)
filter_parts_sound most parts depth used t =
    any_sound most depth (part_at most (inner_at most parts depth)) (part_sound most depth (inner_at most parts depth) (inner_sound most parts depth)) parts parts used t
