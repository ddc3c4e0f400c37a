-- The tree of a filter.
use Rattle.std.specs.Prelude.{◌≡◌, ◌⊎◌, ℕ, zero, suc, List, [], ◌∷◌, false, refl}
use Rattle.std.specs.Coded.{Coded, code_by, coded_list, coded_ℕ, coded⊎}
use Rattle.std.proofs.Common.{inl, inr, ap, ◌∙◌}
use Rattle.tab_edm.specs.declared.values.Value.TheVariants.{Flag}
use Rattle.tab_filter.specs.declared.trees.Operator.TheVariants.{Equal}
use Rattle.tab_filter.specs.declared.trees.Comparison.{Comparison}
use Rattle.tab_filter.specs.declared.trees.Node.{Node, Compare, Not', And', Or'}

-- comparisons, joined by `not`, `and` and `or`
pub data Tree : Type 0 where
  Compared : Comparison → Tree
  Negation : Tree → Tree
  Both : Tree → Tree → Tree
  Either : Tree → Tree → Tree

-- a node without where its parts lie in memory
abbrev pub tree_of : Node → Tree
tree_of (Compare comparison) = Compared comparison
tree_of (Not' p inner) = Negation (tree_of inner)
tree_of (And' p first q second) = Both (tree_of first) (tree_of second)
tree_of (Or' p first q second) = Either (tree_of first) (tree_of second)

-- a tree as a list: what it is, and of a joint the lists of what it joins behind it
abbrev pub Mark : Type 0
Mark = Comparison ⊎ ℕ

abbrev pub spell : Tree → List Mark → List Mark
spell (Compared comparison) rest = inl comparison ∷ rest
spell (Negation inner) rest = spell inner (inr 0 ∷ rest)
spell (Both first second) rest = spell first (spell second (inr 1 ∷ rest))
spell (Either first second) rest = spell first (spell second (inr 2 ∷ rest))

-- one mark more, over the trees that stand ready
abbrev pub joined : Mark → List Tree → List Tree
joined (inl comparison) trees = Compared comparison ∷ trees
joined (inr zero) (inner ∷ trees) = Negation inner ∷ trees
joined (inr (suc zero)) (second ∷ first ∷ trees) = Both first second ∷ trees
joined (inr (suc (suc n))) (second ∷ first ∷ trees) = Either first second ∷ trees
joined (inr n) trees = trees

abbrev pub read : List Mark → List Tree → List Tree
read [] trees = trees
read (mark ∷ marks) trees = read marks (joined mark trees)

pub read_spell : (tree : Tree) (rest : List Mark) (trees : List Tree) → read (spell tree rest) trees ≡ read rest (tree ∷ trees)
read_spell (Compared comparison) rest trees = refl
read_spell (Negation inner) rest trees = read_spell inner (inr 0 ∷ rest) trees
read_spell (Both first second) rest trees =
    read_spell first (spell second (inr 1 ∷ rest)) trees ∙ read_spell second (inr 1 ∷ rest) (first ∷ trees)
read_spell (Either first second) rest trees =
    read_spell first (spell second (inr 2 ∷ rest)) trees ∙ read_spell second (inr 2 ∷ rest) (first ∷ trees)

-- what stands for a list that gives no tree, which none of a tree's is
abbrev pub no_tree : Tree
no_tree = Compared (record { name = []; operator = Equal; value = Flag false })

abbrev pub first_of : List Tree → Tree
first_of [] = no_tree
first_of (tree ∷ trees) = tree

-- a tree's code, from that of a comparison
abbrev pub tree_code : Coded Comparison → Coded Tree
tree_code leaf =
    code_by (List Mark) (coded_list (coded⊎ leaf coded_ℕ)) (λ tree. spell tree []) (λ marks. first_of (read marks [])) (λ tree. ap first_of (read_spell tree [] []))
