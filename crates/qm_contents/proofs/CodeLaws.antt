-- Contents and their codes, back and forth.
use Rattle.std.proofs.Common.{◌≡◌, zero, suc, true, ℤ, pos, negsuc, refl, arith}
use Rattle.std.proofs.lemmas.Bool.{ltb-true}
use Rattle.qm_contents.specs.declared.contents.Contents.{Contents}
use Rattle.qm_contents.specs.Codes.{code_of, is_code, contents_of_code}
use Rattle.qm_contents.proofs.SixKinds.{each_kind}

-- the contents of a code have this code
pub code_back : (code : ℤ) → is_code code ≡ true → code_of (contents_of_code code) ≡ code
code_back (pos n) is = absurd cc
code_back (negsuc zero) is = refl
code_back (negsuc (suc zero)) is = refl
code_back (negsuc (suc (suc zero))) is = refl
code_back (negsuc (suc (suc (suc zero)))) is = refl
code_back (negsuc (suc (suc (suc (suc zero))))) is = refl
code_back (negsuc (suc (suc (suc (suc (suc zero)))))) is = refl
code_back (negsuc (suc (suc (suc (suc (suc (suc n))))))) is = absurd (let e = ltb-true (suc (suc (suc (suc (suc (suc n)))))) 6 is in omega (arith, e))

-- the code of contents leads to them
pub contents_back : (contents : Contents) → contents_of_code (code_of contents) ≡ contents
contents_back = each_kind (λ contents. contents_of_code (code_of contents) ≡ contents) refl refl refl refl refl refl
