-- The objects of the algorithms that can be registered.
use Rattle.std.specs.Prelude.{◌++◌, codes, decimal}
use Rattle.serde_json.specs.Data.{Data, string, object, no_members, member}
use Rattle.acvp_caps.specs.declared.algorithm.Algorithm.{Algorithm}
use Rattle.acvp_caps.specs.Algorithms.{algorithms, name_of, algorithm_number}
use Rattle.acvp_json.specs.Values.{array_of}

-- an algorithm's name, its revision and its URL
abbrev pub algorithm_data : Algorithm → Data
algorithm_data a =
    object (member (codes "name") (string (name_of a))
    (member (codes "revision") (string (codes "1.0"))
    (member (codes "url") (string (codes "/acvp/v1/algorithms/" ++ decimal (algorithm_number a))) no_members)))

-- all algorithms, in the order of their numbers
abbrev pub algorithms_data : Data
algorithms_data = object (member (codes "algorithms") (array_of algorithm_data algorithms) no_members)
