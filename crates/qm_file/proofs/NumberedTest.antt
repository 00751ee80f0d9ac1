-- The test of the numbers of nodes answers what the layout of nodes asks.
use Rattle.std.proofs.Common.{◌≡◌, ℕ, ◌+◌, Bool, true, false, ◌&&◌, List, length, Result, refl, sym, ap, ◌∙◌}
use Rattle.std.specs.Prelude.{◌↔◌, IsTrue, IfOk}
use Rattle.std.proofs.lemmas.List.{length-replicate}
use Rattle.std.proofs.lemmas.Result.{IfOk-weaker}
use Rattle.qm_partition.specs.declared.node.Node.{Node}
use Rattle.qm_partition.specs.declared.node.Leaf.{Leaf}
use Rattle.qm_partition.specs.Partition.{Partition}
use Rattle.qm_partition.specs.Numbering.{AreNumbered}
use Rattle.qm_formats.specs.FileLayout.{are_numbered, numbered_answer}
use Rattle.qm_partition.proofs.NumberedNodes.{some_leaves}

same_truth : (b c : Bool) → (b ≡ true → c ≡ true) → (c ≡ true → b ≡ true) → b ≡ c
same_truth true c to from = sym (to refl)
same_truth false true to from = from refl
same_truth false false to from = refl

-- whether nodes are numbered, with any leaves of that number
abbrev pub TellsNumbered : List Node → ℕ → Bool → Type 0
TellsNumbered nodes leaves numbered = (all : List Leaf) → length all ≡ leaves → (IsTrue numbered ↔ ((shape : Partition) × AreNumbered shape nodes all))

numbered_is : (nodes : List Node) (leaves : ℕ) (numbered : Bool) → leaves ≡ length nodes + 1 → TellsNumbered nodes leaves numbered → numbered ≡ are_numbered nodes
unfolding are_numbered
numbered_is nodes leaves numbered count tells =
    let some = some_leaves nodes in
    let long : length some ≡ length nodes + 1 = length-replicate (length nodes + 1) _ in
    let both = tells some (long ∙ sym count) in
    let own = (numbered_answer nodes).1 some long in
    same_truth numbered (are_numbered nodes) (λ yes. own.1 (both.0 yes)) (λ yes. both.1 (own.0 yes))

pub ordered_answer : {E : Type 0} (answer : Result Bool E) (nodes : List Node) (leaves : ℕ) (named : Bool) → leaves ≡ length nodes + 1 → named ≡ true → IfOk answer (TellsNumbered nodes leaves) → IfOk answer (λ ordered. ordered ≡ (named && are_numbered nodes))
ordered_answer answer nodes leaves named count all tells =
    IfOk-weaker answer (TellsNumbered nodes leaves) (λ ordered. ordered ≡ (named && are_numbered nodes)) (λ numbered told. numbered_is nodes leaves numbered count told ∙ ap (λ (b : Bool). b && are_numbered nodes) (sym all)) tells
