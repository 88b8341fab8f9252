-- Linearizability. Read Answered whole: `IsPoint` is the point of a call, `IsLinearized` what each call answers. Then
-- Changes: which change a reply stands for. Trying says how one try ended. Laws and Examples show answers that are
-- right and answers that are not.
pub mod Answered
pub mod Changes
pub mod Trying
pub mod Laws
pub mod Examples
