-- By how many bytes more than the offset a branch bounds the frame's length.
use Rattle.std.specs.Prelude.{ℕ, zero, suc, Option, Some, None}
use Rattle.bpf_rules.specs.Branches.{Lesson, Nothing, AtMost, Below}

-- None shows nothing; 0: the offset is at most the length; 1 or more: it is below it
abbrev pub lesson_of : Option ℕ → Lesson
lesson_of None = Nothing
lesson_of (Some zero) = AtMost
lesson_of (Some (suc n)) = Below
