-- Where in the table of all reserved words those with a given first letter stand.
use Rattle.std.specs.Prelude.{ℕ, ◌==◌, if◌then◌else◌}

-- the place of the first of them, and the one behind the last
abbrev pub words_range : ℕ → ℕ × ℕ
words_range initial =
    if initial == 65 then (0, 5) else (
    if initial == 66 then (5, 9) else (
    if initial == 67 then (9, 16) else (
    if initial == 68 then (16, 21) else (
    if initial == 69 then (21, 30) else (
    if initial == 70 then (30, 32) else (
    if initial == 71 then (32, 35) else (
    if initial == 73 then (35, 45) else (
    if initial == 77 then (45, 48) else (
    if initial == 78 then (48, 50) else (
    if initial == 79 then (50, 56) else (
    if initial == 80 then (56, 62) else (
    if initial == 82 then (62, 65) else (
    if initial == 83 then (65, 70) else (
    if initial == 84 then (70, 76) else (
    if initial == 85 then (76, 82) else (
    if initial == 86 then (82, 84) else (
    if initial == 87 then (84, 85) else (
    (0, 0)))))))))))))))))))
