-- The records of a tree file are read exactly.
use Rattle.std.proofs.Common.{◌≡◌, ℕ, zero, suc, Bool, true, false, cond, eqb, leb, ◌&&◌, ◌||◌, ℤ, pos, negsuc, refl, sym, arith}
use Rattle.std.proofs.lemmas.Bool.{and_parts, leb-true}
use Rattle.std.specs.Int.{w8, w32, w64}
use Rattle.qm_contents.specs.Codes.{contents_of_code, is_code}
use Rattle.qm_contents.proofs.CodeLaws.{code_back, contents_back}
use Rattle.qm_contacts.specs.NumberedLeaves.{is_solid}
use Rattle.qm_partition.specs.declared.node.Child.{Child}
use Rattle.qm_partition.specs.declared.node.Child.TheVariants.{Node, Leaf}
use Rattle.qm_formats.specs.Layout.{followed_by}
use Rattle.qm_formats.specs.Fields.{unsigned, signed}
use Rattle.qm_formats.specs.Exact.{IsExact}
use Rattle.qm_formats.specs.FileParts.{short, plane_form, leaf_form, is_plane, plane_layout, child_of_number, number_of_child, child_layout, node_layout, is_leaf, leaf_layout}
use Rattle.qm_formats.proofs.ExactParts.{recast_exact, tested_exact, followed_by_exact, part_exact, last_part_exact, exact_of_parts}
use Rattle.qm_formats.proofs.ExactFields.{byte_exact, unsigned_32_exact, signed_32_exact, signed_64_exact}

pub plane_exact : IsExact plane_layout
unfolding plane_layout
plane_exact =
    tested_exact is_plane plane_form (λ _ at. at) _ (exact_of_parts _ (
    part_exact _ _ _ _ (signed_32_exact short) (λ nx _.
    part_exact _ _ _ _ (signed_32_exact short) (λ ny _.
    part_exact _ _ _ _ (signed_32_exact short) (λ nz _.
    last_part_exact _ _ _ _ (signed_64_exact short) (λ d _. record { before = record { before = record { before = record { before = tt; is = refl }; is = refl }; is = refl }; is = refl }) (λ h known.
    λ i. record { nx = sym known.before.before.is i; ny = sym known.before.is i; nz = sym known.is i; d = h.d }))))))

child_number : (z : ℤ) → number_of_child (child_of_number z) ≡ z
child_number (pos n) = refl
child_number (negsuc k) = refl

number_child : (child : Child) → child_of_number (number_of_child child) ≡ child
number_child (Node n) = refl
number_child (Leaf k) = refl

pub child_exact : IsExact child_layout
unfolding child_layout
child_exact = recast_exact child_of_number number_of_child (signed short w64) (signed_64_exact short) (λ z right. child_number z) (λ child right. number_child child)

pub node_exact : IsExact node_layout
unfolding node_layout
node_exact =
    exact_of_parts _ (
    part_exact _ _ _ _ (unsigned_32_exact short) (λ plane _.
    part_exact _ _ _ _ child_exact (λ front _.
    last_part_exact _ _ _ _ child_exact (λ back _. record { before = record { before = record { before = tt; is = refl }; is = refl }; is = refl }) (λ here known.
    λ i. record { plane = sym known.before.is i; front = sym known.is i; back = here.back }))))

pub flag_number : (n : ℕ) → leb n 1 ≡ true → cond (eqb n 1) 1 0 ≡ n
flag_number zero is = refl
flag_number (suc zero) is = refl
flag_number (suc (suc n)) is = absurd (let e = leb-true (suc (suc n)) 1 is in omega (arith, e))

pub number_flag : (flag : Bool) → eqb (cond flag 1 0) 1 ≡ flag
number_flag true = refl
number_flag false = refl

pub leaf_exact : IsExact leaf_layout
unfolding leaf_layout is_leaf
leaf_exact =
    let fields = followed_by (signed short w32) (unsigned short w8) in
    recast_exact _ _ _ (tested_exact is_leaf leaf_form (λ _ at. at) fields (followed_by_exact (signed short w32) (unsigned short w8) (signed_32_exact short) (byte_exact short))) (λ v right.
    let tests = and_parts (is_code v.0) (leb v.1 1 && (eqb v.1 0 || is_solid (contents_of_code v.0))) (and_parts (fields.right v) (is_leaf v) right).1 in
    let code = code_back v.0 tests.0 in
    let flag = flag_number v.1 (and_parts (leb v.1 1) (eqb v.1 0 || is_solid (contents_of_code v.0)) tests.1).0 in
    λ i. (code i, flag i)) (λ found right.
    let contents = contents_back found.contents in
    let filled = number_flag found.filled in
    λ i. record { contents = contents i; filled = filled i })
