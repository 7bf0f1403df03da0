pub mod SameReplies
pub mod Examples
