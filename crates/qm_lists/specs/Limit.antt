use Rattle.std.specs.Prelude.{ℕ, ◌+◌, List, take}

-- as much of a list as shows whether it is longer than a limit: all of it, or its first items, one past the limit
unfoldable pub up_to_one_past : {A : Type 0} → ℕ → List A → List A
up_to_one_past limit items = take (limit + 1) items
