-- How the code keeps the methods of a path.
use Rattle.std.specs.Prelude.{ℕ, List, [], ◌∷◌, ◌++◌, codes, length, ◌==◌, Option, Some, None, if◌then◌else◌}
use Rattle.acvp_desk.specs.declared.request.Ask.{Ask}
use Rattle.acvp_http.specs.declared.path.Methods.{Methods}

-- a method that the path has, or not
abbrev pub offered : List ℕ → Option Ask → List (List ℕ × Ask)
offered name None = []
offered name (Some asked) = (name, asked) ∷ []

-- those that it has, in their order
abbrev pub listed : Methods → List (List ℕ × Ask)
listed m =
    offered (codes "GET") m.get ++ offered (codes "POST") m.post ++ offered (codes "PUT") m.put
    ++ offered (codes "DELETE") m.delete

-- a name behind those that are there
abbrev pub joined : List ℕ → List ℕ → List ℕ
joined text name = if length text == 0 then name else text ++ codes ", " ++ name
