-- No map of rooms leaks: its one entity beside the world is the player's start, within the shell of stone.
use Rattle.std.proofs.Common.{◌≡◌, ℕ, ◌≤◌, List, [], ◌∷◌, sym, subst, ⊎_elim}
use Rattle.qm_lists.proofs.Elements.{Contains-nil, Contains-cons_cases}
use Rattle.qm_mapfile.specs.declared.entity.MapFile.{MapFile}
use Rattle.qm_partition.specs.Tree.{Tree}
use Rattle.qm_partition.specs.Ways.{HasPoints}
use Rattle.qm_solid_tree.specs.GivesContents.{GivesContents}
use Rattle.qm_drawn.specs.Solids.{drawn_solids}
use Rattle.qm_contacts.specs.Leak.{Origin, Leaks}
use Rattle.qm_rooms.specs.Rooms.{player_start, rooms_map}
use Rattle.qm_statement.specs.Built.{IsBuilt}
use Rattle.qm_statement.specs.CompiledMap.{NoneLeaks}
use Rattle.qm_statement.specs.Origins.{StandAt, none_left, nowhere, somewhere, AreOriginsOf}
use Rattle.qm_sealed_rooms.proofs.RoomOrigins.{start_never_leaks}

module _ (rooms number : ℕ) (some : 1 ≤ rooms) (few : rooms ≤ 64) (tree : Tree) (gives : GivesContents tree (drawn_solids (rooms_map rooms number))) (have : HasPoints tree) where
  -- what stands where the player starts, and nothing else
  none_of_start : (k : ℕ) (origins : List Origin) → StandAt k (player_start ∷ []) origins → NoneLeaks tree origins
  none_of_start k origins (nowhere none none_left) origin listed leaks = Contains-nil origin listed
  none_of_start k origins (somewhere {point = point} is none_left) origin listed leaks = ⊎_elim
      (λ same. start_never_leaks rooms some few number tree gives have k point is (subst (Leaks tree) (sym same) leaks))
      (λ later. Contains-nil origin later)
      (Contains-cons_cases (record { entity = k; point = point }) origin [] listed)

  pub none_leaks : (origins : List Origin) → AreOriginsOf (rooms_map rooms number) origins → NoneLeaks tree origins
  unfolding rooms_map
  none_leaks origins are = none_of_start 1 origins are

pub never_leaks : (rooms number : ℕ) → 1 ≤ rooms → rooms ≤ 64 → (tree : Tree) (origins : List Origin) →
    GivesContents tree (drawn_solids (rooms_map rooms number)) → HasPoints tree → AreOriginsOf (rooms_map rooms number) origins → NoneLeaks tree origins
never_leaks rooms number some few tree origins gives have are = none_leaks rooms number some few tree gives have origins are

-- so it is of each map that is one of rooms
pub built_never_leaks : (map : MapFile) (rooms number : ℕ) → map ≡ rooms_map rooms number → 1 ≤ rooms → rooms ≤ 64 → (tree : Tree) (origins : List Origin) → IsBuilt map tree origins → NoneLeaks tree origins
built_never_leaks map rooms number is some few tree origins built =
    let its = subst (λ (m : MapFile). IsBuilt m tree origins) is built in
    never_leaks rooms number some few tree origins its.gives_contents its.have_points its.are_origins
