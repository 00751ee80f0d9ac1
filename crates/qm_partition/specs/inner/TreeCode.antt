-- How a tree is told from another: by its planes and its visits, each as numbers.
use Rattle.std.specs.Prelude.{◌≡◌, ℕ, ℤ, Bool, false, ◌⊎◌, List, [], ◌∷◌, Option, Some, None, map, refl}
use Rattle.std.proofs.Common.{inl, inr, ap, ◌∙◌}
use Rattle.std.specs.Coded.{Coded, code_by, coded_ℕ, coded_ℤ, coded_bool, coded_list, coded×, coded⊎}
use Rattle.qm_contents.specs.declared.contents.Contents.{Contents}
use Rattle.qm_contents.specs.declared.contents.Contents.TheVariants.{Empty}
use Rattle.qm_contents.specs.Precedence.{strength, contents_of_strength}
use Rattle.qm_contents.proofs.Strengths.{strength_back}
use Rattle.qm_space.specs.Plane.{Plane}
use Rattle.qm_partition.specs.declared.visit.Visit.{Visit}
use Rattle.qm_partition.specs.declared.visit.Visit.TheVariants.{Node, Leaf}
use Rattle.qm_partition.specs.Partition.{Partition, leaf}
use Rattle.qm_partition.specs.Tree.{Tree}
use Rattle.qm_partition.specs.Visits.{visits}
use Rattle.qm_partition.specs.inner.Grown.{grown_from, grown_from-visits}

abbrev PlaneNumbers : Type 0
PlaneNumbers = ℤ × (ℤ × (ℤ × ℤ))

abbrev VisitNumbers : Type 0
VisitNumbers = ℕ ⊎ (ℕ × Bool)

abbrev TreeNumbers : Type 0
TreeNumbers = List PlaneNumbers × List VisitNumbers

abbrev numbers_code : Coded TreeNumbers
numbers_code =
    coded× (coded_list (coded× coded_ℤ (coded× coded_ℤ (coded× coded_ℤ coded_ℤ)))) (coded_list (coded⊎ coded_ℕ (coded× coded_ℕ coded_bool)))

abbrev plane_numbers : Plane → PlaneNumbers
plane_numbers h = (h.nx, (h.ny, (h.nz, h.d)))

abbrev numbered_plane : PlaneNumbers → Plane
numbered_plane h = record { nx = h.0; ny = h.1.0; nz = h.1.1.0; d = h.1.1.1 }

abbrev visit_numbers : Visit → VisitNumbers
visit_numbers (Node n) = inl n
visit_numbers (Leaf found) = inr (strength found.contents, found.filled)

abbrev numbered_visit : VisitNumbers → Visit
numbered_visit (inl n) = Node n
numbered_visit (inr found) = Leaf (record { contents = contents_of_strength found.0; filled = found.1 })

visit_again : (visit : Visit) → numbered_visit (visit_numbers visit) ≡ visit
visit_again (Node n) = refl
visit_again (Leaf found) = ap (λ (contents : Contents). Leaf (record { contents = contents; filled = found.filled })) (strength_back found.contents)

-- the first partition, where there is one
abbrev first_grown : Option (List Partition) → Partition
first_grown None = leaf (record { contents = Empty; filled = false })
first_grown (Some []) = leaf (record { contents = Empty; filled = false })
first_grown (Some (shape ∷ grown)) = shape

abbrev tree_numbers : Tree → TreeNumbers
tree_numbers tree = (map plane_numbers tree.planes, map visit_numbers (visits tree.shape))

abbrev numbered_tree : TreeNumbers → Tree
numbered_tree numbers = record { planes = map numbered_plane numbers.0; shape = first_grown (grown_from (map numbered_visit numbers.1) (Some [])) }

all_again : {A B : Type 0} (to : A → B) (from : B → A) → ((a : A) → from (to a) ≡ a) → (all : List A) → map from (map to all) ≡ all
all_again to from again [] = refl
all_again to from again (a ∷ all) = ap (λ (b : _). b ∷ map from (map to all)) (again a) ∙ ap (λ (rest : _). a ∷ rest) (all_again to from again all)

pub tree_again : (tree : Tree) → numbered_tree (tree_numbers tree) ≡ tree
tree_again tree =
    ap (λ (planes : List Plane). record { planes = planes; shape = first_grown (grown_from (map numbered_visit (map visit_numbers (visits tree.shape))) (Some [])) }) (all_again plane_numbers numbered_plane (λ h. refl) tree.planes)
    ∙ ap (λ (walk : List Visit). record { planes = tree.planes; shape = first_grown (grown_from walk (Some [])) }) (all_again visit_numbers numbered_visit visit_again (visits tree.shape))
    ∙ ap (λ (grown : Option (List Partition)). record { planes = tree.planes; shape = first_grown grown }) (grown_from-visits tree.shape [])

abbrev pub tree_code : Coded Tree
tree_code = code_by TreeNumbers numbers_code tree_numbers numbered_tree tree_again
