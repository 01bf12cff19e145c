-- The folder that a path leads into, and the name there.
use Rattle.std.specs.Prelude.{◌==◌, ◌||◌, ℕ, Bool, List, [], codes, if◌then◌else◌}
use Rattle.std.specs.List.{after_last, before_last, ends_with, list_any}

abbrev pub is_slash : ℕ → Bool
is_slash byte = byte == 47

-- nothing before a slash is the root
abbrev pub or_root : List ℕ → List ℕ
or_root [] = codes "/"
or_root folder = folder

-- what stands before the last slash, and without one the folder where the program runs
abbrev pub folder_of : List ℕ → List ℕ
folder_of path = if list_any is_slash path then or_root (before_last is_slash path) else codes "."

-- what stands behind the last slash, and without one the whole
abbrev pub last_of : List ℕ → List ℕ
last_of path = after_last is_slash path

abbrev pub ends : List ℕ → List ℕ → Bool
ends path name = ends_with (λ a b. a == b) path name

-- a path that ends as that of a database's log, of sqlite3's shared memory and journal, or of the socket of orders
abbrev pub is_companion : List ℕ → Bool
is_companion path =
    ends path (codes "-wal") || ends path (codes "-shm")
    || ends path (codes "-journal") || ends path (codes "-orders")
