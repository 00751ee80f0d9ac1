-- Cases over the kinds of contents.
use Rattle.std.proofs.Common.{◌≡◌, ◌⊎◌, inl, inr, refl}
use Rattle.qm_contents.specs.declared.contents.Contents.{Contents}
use Rattle.qm_contents.specs.declared.contents.Contents.TheVariants.{Empty, Solid, Water, Slime, Lava, Sky}

-- what holds of each kind holds of all contents
pub each_kind : (P : Contents → Type 0) → P Empty → P Solid → P Water → P Slime → P Lava → P Sky → (contents : Contents) → P contents
each_kind P empty solid water slime lava sky Empty = empty
each_kind P empty solid water slime lava sky Solid = solid
each_kind P empty solid water slime lava sky Water = water
each_kind P empty solid water slime lava sky Slime = slime
each_kind P empty solid water slime lava sky Lava = lava
each_kind P empty solid water slime lava sky Sky = sky

-- what holds of each kind but solid holds of all contents that are not solid
pub each_but_solid : (P : Contents → Type 0) → P Empty → P Water → P Slime → P Lava → P Sky → (contents : Contents) → (contents ≡ Solid → ⊥) → P contents
each_but_solid P empty water slime lava sky =
    each_kind (λ contents. (contents ≡ Solid → ⊥) → P contents) (λ _. empty) (λ other. absurd (other refl)) (λ _. water) (λ _. slime) (λ _. lava) (λ _. sky)

-- contents are solid, or not
pub solid_or_not : (contents : Contents) → (contents ≡ Solid) ⊎ (contents ≡ Solid → ⊥)
solid_or_not Solid = inl refl
solid_or_not Empty = inr (λ is. cc)
solid_or_not Water = inr (λ is. cc)
solid_or_not Slime = inr (λ is. cc)
solid_or_not Lava = inr (λ is. cc)
solid_or_not Sky = inr (λ is. cc)
